use Rattle.std.proofs.Common.{◌≡◌, ◌++◌, drop}
use Rattle.qvtr_semantics.specs.Data.{new_ones, distinct}
use Rattle.ocl_eval.proofs.kinds.distinct.Given as goal

abbrev pub invariant-loop-element : goal.invariant-loop-element
invariant-loop-element l = l.firsts ++ new_ones l.met.data.keys (drop l.element-index l.elements) ≡ distinct l.elements
