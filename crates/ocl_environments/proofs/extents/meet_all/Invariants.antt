use Rattle.std.proofs.Common.{◌≡◌, ◌<◌, ℕ, length, drop}
use Rattle.ocl_environments.specs.Environments.{models_of}
use Rattle.ocl_environments.specs.Extents.{met_all, met_at}
use Rattle.ocl_environments.proofs.extents.meet_all.Given as goal

-- with the rest of the models met, what was met is the whole
abbrev pub invariant-loop-i : goal.invariant-loop-i
invariant-loop-i l = (length l.table ≡ length l.fn.table)
    × ((meta : ℕ) → meta < length l.fn.table → met_all (met_at l.table meta) (models_of meta l.i (drop l.i l.models)) ≡ met_all (met_at l.fn.table meta) (models_of meta 0 l.models))
