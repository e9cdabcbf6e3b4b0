use Rattle.std.proofs.Common.{◌≡◌, replicate}
use Rattle.ocl_environments.specs.declared.extents.Met.TheVariants.{Nothing}
use Rattle.ocl_environments.proofs.extents.no_models.Given as goal

abbrev pub invariant-loop-i : goal.invariant-loop-i
invariant-loop-i l = l.table.items ≡ replicate l._i Nothing
