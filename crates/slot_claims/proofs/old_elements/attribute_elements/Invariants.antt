use Rattle.std.proofs.Common.{◌≡◌, map, take}
use Rattle.qvtr_semantics.specs.Objects.{value_datum}
use Rattle.repair_semantics.specs.Claims.{Held}
use Rattle.slot_claims.specs.HeldValues.{held_by}
use Rattle.slot_claims.proofs.old_elements.attribute_elements.Given as goal

abbrev pub invariant-loop-value : goal.invariant-loop-value
invariant-loop-value l = map held_by l.found ≡ map (λ v. Held.datum (value_datum l.meta v)) (take l.value-index l.values)
