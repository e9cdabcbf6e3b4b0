use Rattle.slot_claims.specs.HeldValues.{element_by}
use Rattle.slot_claims.specs.ObjectClaims.{slot_claim}
use Rattle.slot_claims.proofs.AgainstLaws.{single_then, single_else}
use Rattle.slot_claims.proofs.claim_table.ClaimTable.is_against_slot.Goals as goal

pub returns-then-is_single : goal.returns-then-is_single
returns-then-is_single c =
    single_then c.args.meta.now
    (slot_claim c.args.owner.0 c.args.prop.0 (element_by c.args.element)) c.args.self.now c.is_single.result c.says_otherwise.result
    c.is_single.ensures c.if-is_single.true c.says_otherwise.ensures

pub returns-else-is_single : goal.returns-else-is_single
returns-else-is_single c =
    single_else c.args.meta.now
    (slot_claim c.args.owner.0 c.args.prop.0 (element_by c.args.element)) c.args.self.now c.is_single.result c.is_single.ensures c.if-is_single.false
