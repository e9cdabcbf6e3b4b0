use Rattle.std.proofs.Common.{◌≡◌, take}
use Rattle.std.specs.List.{filter}
use Rattle.qvtr_semantics.specs.Data.{is_among}
use Rattle.ocl_eval.proofs.comparing.common.Given as goal

abbrev pub invariant-loop-element : goal.invariant-loop-element
invariant-loop-element l = l.both ≡ filter (λ d. is_among d l.met.data.keys) (take l.element-index l.elements)
