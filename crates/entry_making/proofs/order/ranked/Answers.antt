use Rattle.std.proofs.Common.{refl, sym, ap, subst, ◌∙◌, arith, ◌++◌, ◌∷◌, []}
use Rattle.std.proofs.lemmas.List.FromFn.{map-range_with_len_more}
use Rattle.entry_making.specs.Orders.{ranked_at}
use Rattle.entry_making.proofs.order.ranked.Goals as goal

pub loop-node-preserved : goal.loop-node-preserved
loop-node-preserved c =
    c.in_ok-push.ensures.items
    ∙ ap (λ xs. xs ++ ranked_at c.args.strata.now c.loop-node.node ∷ []) c.loop-node.invariant
    ∙ sym (map-range_with_len_more (ranked_at c.args.strata.now) 0 c.loop-node.node c.loop-node.node (omega arith))
