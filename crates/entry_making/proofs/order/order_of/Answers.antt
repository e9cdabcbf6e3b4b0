use Rattle.std.proofs.Common.{◌≡◌, [], List, ℕ, replicate, length, map, subst, sym, ap, ◌∙◌}
use Rattle.std.specs.List.{range_with_len}
use Rattle.std.specs.List.Sorted.{IsPermutation}
use Rattle.entry_making.specs.declared.ranked.Ranked.{Ranked}
use Rattle.entry_making.specs.Orders.{IsOrder, ranked_at}
use Rattle.entry_making.proofs.OrderLaws.{in_order}
use Rattle.entry_making.proofs.ResultLaws.{told_more}
use Rattle.entry_making.proofs.order.order_of.Goals as goal

pub returns : goal.returns
returns c =
    let graph = c.args.graph.now in
    let rs = c.by_stratum-nodes.result.items in
    let ranked = c.in_ok-ranked.ensures ∙ ap (λ (s : List ℕ). map (ranked_at s) (range_with_len 0 (length s))) c.as_slice.ensures in
    let same = subst (λ (xs : List Ranked). IsPermutation xs rs) ranked c.by_stratum-nodes.ensures.same in
    told_more c.nodes_of.result (λ order. order ≡ map (λ (r : Ranked). r.node) c.as_slice-2.result.now) (IsOrder graph) c.nodes_of.ensures (λ order is.
    subst (IsOrder graph) (sym (is ∙ ap (λ (xs : List Ranked). map (λ (r : Ranked). r.node) xs) c.as_slice-2.ensures.value))
    (in_order graph (replicate (length graph) []) c.in_ok-strata.strata c.in_ok-strata.ensures rs same c.by_stratum-nodes.ensures.sorted))
