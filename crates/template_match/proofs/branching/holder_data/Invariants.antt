use Rattle.std.proofs.Common.{◌≡◌, map, take}
use Rattle.qvtr_semantics.specs.declared.datum.Datum.TheVariants.{Obj}
use Rattle.template_match.proofs.branching.holder_data.Given as goal

abbrev pub invariant-loop-holder : goal.invariant-loop-holder
invariant-loop-holder l = l.data ≡ map (λ h. Obj l.model h.object) (take l.holder-index l.holders)
