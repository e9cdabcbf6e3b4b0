use Rattle.std.proofs.Common.{◌≡◌, map, take}
use Rattle.slot_claims.specs.HeldValues.{held_by, element_by}
use Rattle.slot_claims.proofs.added.all_lent.Given as goal

abbrev pub invariant-loop-element : goal.invariant-loop-element
invariant-loop-element l = map element_by l.found.items ≡ map held_by (take l.element-index l.elements)
