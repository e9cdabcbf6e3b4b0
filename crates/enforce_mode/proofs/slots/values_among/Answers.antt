use Rattle.std.proofs.Common.{◌++◌, sym, ap, ◌∙◌}
use Rattle.std.specs.Option.{option_to_list}
use Rattle.repair_semantics.specs.Candidates.{value_held}
use Rattle.slot_claims.specs.HeldValues.{held_by}
use Rattle.enforce_mode.proofs.HeldLaws.{held_more}
use Rattle.enforce_mode.proofs.slots.values_among.Goals as goal

pub loop-one-preserved : goal.loop-one-preserved
loop-one-preserved c =
    c.in_ok-put_value.ensures ∙ ap (λ vs. vs ++ option_to_list (value_held (held_by c.in-Some.one))) c.loop-one.invariant
    ∙ sym (held_more value_held c.loop-one.yielded c.in-Some.one)
