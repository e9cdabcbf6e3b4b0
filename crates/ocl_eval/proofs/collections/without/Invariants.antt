use Rattle.std.proofs.Common.{◌≡◌, take}
use Rattle.qvtr_semantics.specs.Collections.{without}
use Rattle.ocl_eval.proofs.collections.without.Given as goal

abbrev pub invariant-loop-element : goal.invariant-loop-element
invariant-loop-element l = l.others ≡ without l.datum (take l.element-index l.elements)
