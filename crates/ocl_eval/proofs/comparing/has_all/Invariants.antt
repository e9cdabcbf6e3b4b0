use Rattle.std.proofs.Common.{◌≡◌, drop}
use Rattle.std.specs.List.{list_all}
use Rattle.qvtr_semantics.specs.Data.{is_among}
use Rattle.ocl_eval.proofs.comparing.has_all.Given as goal

abbrev pub invariant-loop-element : goal.invariant-loop-element
invariant-loop-element l = list_all (λ d. (is_among d l.met.data.keys)) l.elements ≡ list_all (λ d. (is_among d l.met.data.keys)) (drop l.element-index l.elements)
