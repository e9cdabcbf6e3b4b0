use Rattle.std.proofs.Common.{◌∙◌, ap}
use Rattle.repair_semantics.specs.Terms.{each_once}
use Rattle.slot_claims.specs.ObjectClaims.{claim_by}
use Rattle.slot_claims.specs.ClaimOrder.{claim_order}
use Rattle.slot_claims.proofs.OnceLaws.{mapped_once}
use Rattle.slot_claims.proofs.OrderLaws.{claims_total, claim_exact}
use Rattle.slot_claims.proofs.claim_table.ClaimTable.new.Goals as goal

pub returns : goal.returns
returns c =
    mapped_once claim_order claims_total claim_exact claim_by c.in_ok-claims.claims.items c.each_once.result.items c.each_once.ensures
    ∙ ap (each_once claim_order) c.in_ok-claims.ensures
