use Rattle.ocl_eval.specs.Indexes.{AreIndexes}
use Rattle.ocl_eval.proofs.models.build_all.Given as goal

abbrev pub invariant-loop-number : goal.invariant-loop-number
invariant-loop-number l = AreIndexes (λ m. m) l.models l.indexes
