use Rattle.std.proofs.Common.{◌≡◌, drop}
use Rattle.qvtr_semantics.specs.Integers.{sum, sum_onto}
use Rattle.ocl_eval.proofs.integers.sum.Given as goal

abbrev pub invariant-loop-datum : goal.invariant-loop-datum
invariant-loop-datum l = sum_onto l.total (drop l.datum-index l.elements) ≡ sum l.elements
