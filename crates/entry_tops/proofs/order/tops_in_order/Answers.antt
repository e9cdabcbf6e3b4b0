use Rattle.std.specs.List.Sorted.{IsPermutation}
use Rattle.std.proofs.Common.{List, ap, subst, ◌∙◌}
use Rattle.entry_tops.specs.declared.ranked.Ranked.{Ranked}
use Rattle.entry_tops.specs.TopOrder.{ranked_from}
use Rattle.entry_tops.proofs.OrderLaws.{in_order}
use Rattle.entry_tops.proofs.order.tops_in_order.Goals as goal

pub returns : goal.returns
returns c =
    let rs = c.by_stratum.result.items in
    let ranked = c.in_ok-ranked.ensures ∙ ap (ranked_from 0) c.as_slice.ensures in
    in_order c.args.program.now rs (subst (λ (xs : List Ranked). IsPermutation xs rs) ranked c.by_stratum.ensures.same) c.by_stratum.ensures.sorted
