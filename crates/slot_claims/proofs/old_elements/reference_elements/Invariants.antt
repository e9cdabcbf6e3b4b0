use Rattle.std.proofs.Common.{◌≡◌, ◌++◌, map}
use Rattle.slot_claims.specs.declared.held_value.HeldValue.TheVariants.{Object}
use Rattle.slot_claims.specs.HeldValues.{held_by}
use Rattle.slot_claims.proofs.old_elements.reference_elements.Given as goal

abbrev pub invariant-loop-partner : goal.invariant-loop-partner
invariant-loop-partner l =
    map held_by l.found ++ map (λ b. held_by (Object b)) l.partner-iterator ≡ map (λ b. held_by (Object b)) l.initial.partner-iterator
