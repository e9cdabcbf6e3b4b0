use Rattle.std.proofs.Common.{◌≡◌, Bool, ap, rules}
use Rattle.std.specs.Ordering.{is_lt}
use Rattle.std.proofs.lemmas.Fn.{always_returns_same}
use Rattle.std.proofs.lemmas.List.Sorted.{ranks_by}
use Rattle.slot_claims.specs.declared.claim.ObjectClaim.{ObjectClaim}
use Rattle.slot_claims.specs.ObjectClaims.{claim_by}
use Rattle.slot_claims.specs.ClaimOrder.{object_claim_order}
use Rattle.slot_claims.proofs.OrderLaws.{claims_total}
use Rattle.slot_claims.proofs.ordering.in_order.Goals as goal

pub returns-clause-sorted : goal.returns-clause-sorted
returns-clause-sorted c =
    let lt : ObjectClaim → ObjectClaim → Bool = λ x y. is_lt (object_claim_order x y) in
    c.sort_unstable_by.ensures.sorted lt (ranks_by claims_total claim_by)
    (always_returns_same _ _ _ (λ a r f' k. (let is : r ≡ object_claim_order a.0.now a.1.0.now = search rules in ap is_lt is, search rules)))
