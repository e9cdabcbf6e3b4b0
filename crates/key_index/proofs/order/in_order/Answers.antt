use Rattle.std.proofs.Common.{◌≡◌, Bool, ap, rules}
use Rattle.std.specs.Ordering.{is_lt}
use Rattle.std.proofs.lemmas.Fn.{always_returns_same}
use Rattle.std.proofs.lemmas.List.Sorted.{ranks_by}
use Rattle.key_index.specs.declared.holder.Holder.{Holder}
use Rattle.key_index.specs.HolderOrder.{holder_order}
use Rattle.key_index.proofs.OrderLaws.{holders_total}
use Rattle.key_index.proofs.order.in_order.Goals as goal

pub returns-clause-sorted : goal.returns-clause-sorted
returns-clause-sorted c =
    let lt : Holder → Holder → Bool = λ x y. is_lt (holder_order x y) in
    c.sort_unstable_by.ensures.sorted lt (ranks_by holders_total (λ h. h))
    (always_returns_same _ _ _ (λ a r f' k. (let is : r ≡ holder_order a.0.now a.1.0.now = search rules in ap is_lt is, search rules)))
