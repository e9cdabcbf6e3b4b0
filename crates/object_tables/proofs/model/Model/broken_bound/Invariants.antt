use Rattle.std.proofs.Common.{ℕ, ◌<◌}
use Rattle.object_tables.specs.Validity.{KeepsBounds}
use Rattle.object_tables.proofs.model.Model.broken_bound.Given as goal

-- the bounds are kept at each object so far
abbrev pub invariant-loop-o : goal.invariant-loop-o
invariant-loop-o l = (a p : ℕ) → a < l.o → KeepsBounds l.self a p
