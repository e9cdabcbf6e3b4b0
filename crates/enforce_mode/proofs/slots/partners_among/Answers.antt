use Rattle.std.proofs.Common.{◌++◌, sym, ap, ◌∙◌, arith}
use Rattle.std.specs.Option.{option_to_list}
use Rattle.repair_semantics.specs.Candidates.{partner_held}
use Rattle.slot_claims.specs.HeldValues.{held_by}
use Rattle.enforce_mode.proofs.HeldLaws.{held_further}
use Rattle.enforce_mode.proofs.slots.partners_among.Goals as goal

pub loop-one-preserved : goal.loop-one-preserved
loop-one-preserved c =
    c.in_ok-put_partner.ensures ∙ ap (λ ns. ns ++ option_to_list (partner_held (held_by c.one-item.result))) c.loop-one.invariant
    ∙ sym (held_further partner_held c.args.held.now c.loop-one.one-index c.one-item.result (omega arith) c.one-item.is)
