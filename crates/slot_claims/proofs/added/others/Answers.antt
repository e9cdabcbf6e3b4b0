use Rattle.std.specs.Prelude.{map, ◌++◌}
use Rattle.std.specs.Option.{option_to_list}
use Rattle.std.proofs.Common.{◌∙◌, ap, sym, arith}
use Rattle.repair_semantics.specs.Candidates.{others_than}
use Rattle.slot_claims.specs.HeldValues.{element_by}
use Rattle.slot_claims.specs.ObjectClaims.{said_by, element_in}
use Rattle.slot_claims.proofs.ElementLaws.{others_more}
use Rattle.slot_claims.proofs.added.others.Goals as goal

pub loop-claim-preserved : goal.loop-claim-preserved
loop-claim-preserved c =
    let kept = map element_by c.args.sorted.now in
    let claim = c.claim-item.result in
    c.in_ok-add_other.ensures ∙ ap (λ hs. hs ++ others_than kept (option_to_list (element_in (said_by claim.said)))) c.loop-claim.invariant
    ∙ sym (others_more kept c.args.claims.now c.loop-claim.claim-index claim (omega arith) c.claim-item.is)
