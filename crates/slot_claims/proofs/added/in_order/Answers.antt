use Rattle.std.proofs.Common.{◌≡◌, Bool, ap, rules}
use Rattle.std.specs.Ordering.{is_lt}
use Rattle.std.proofs.lemmas.Fn.{always_returns_same}
use Rattle.std.proofs.lemmas.List.Sorted.{ranks_by}
use Rattle.slot_claims.specs.declared.held_value.Element.{Element}
use Rattle.slot_claims.specs.HeldValues.{element_by}
use Rattle.slot_claims.specs.ClaimOrder.{element_order}
use Rattle.slot_claims.proofs.OrderLaws.{held_total}
use Rattle.slot_claims.proofs.added.in_order.Goals as goal

pub returns-clause-sorted : goal.returns-clause-sorted
returns-clause-sorted c =
    let lt : Element → Element → Bool = λ x y. is_lt (element_order x y) in
    c.sort_unstable_by.ensures.sorted lt (ranks_by held_total element_by)
    (always_returns_same _ _ _ (λ a r f' k. (let is : r ≡ element_order a.0.now a.1.0.now = search rules in ap is_lt is, search rules)))
