use Rattle.std.specs.Cmp.{on_total}
use Rattle.template_match.proofs.OrderLaws as template_orders
use Rattle.slot_claims.specs.ObjectClaims.{claim_by}
use Rattle.slot_claims.specs.ClaimOrder.{object_claim_order}
use Rattle.slot_claims.proofs.OrderLaws.{claims_total}
use Rattle.slot_claims.proofs.ordering.each_once.Goals as goal

pub returns : goal.returns
returns c =
    template_orders.each_once object_claim_order
    (on_total claim_by claims_total) c.args.claims.items c.in_order.result.items
    c.without_neighbours.result.items c.in_order.ensures.same c.in_order.ensures.sorted
    c.without_neighbours.ensures
