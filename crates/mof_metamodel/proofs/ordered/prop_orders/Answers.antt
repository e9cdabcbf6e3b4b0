use Rattle.std.proofs.Common.{◌<◌, ℕ, List, ap, ◌∙◌, sym, subst, arith, map}
use Rattle.std.specs.Prelude.{All}
use Rattle.std.specs.List.{flat_map}
use Rattle.mof_metamodel.specs.Metamodels.{class_count, own_props, props_of, lineage_of}
use Rattle.mof_metamodel.specs.Tables.{prop_numbers}
use Rattle.mof_metamodel.proofs.TableLemmas.{row_more, entry_is, entry_count}
use Rattle.mof_metamodel.proofs.OrderLemmas.{lineage_classes}
use Rattle.mof_metamodel.proofs.ordered.prop_orders.Goals as goal

pub bounds-lineages-c : goal.bounds-lineages-c
bounds-lineages-c c = let n = entry_count c.args.lineages.now (lineage_of c.args.named.now) (class_count c.args.named.now) c.requires in omega (arith, n, c.class_count-c-end.ensures)

pub props_in-requires : goal.props_in-requires
props_in-requires c =
    let short : c.loop-c.c < class_count c.args.named.now = omega (arith, c.class_count-c-end.ensures) in
    let is = entry_is c.args.lineages.now (lineage_of c.args.named.now) (class_count c.args.named.now) c.requires c.loop-c.c c.index-lineages-c.result short c.index-lineages-c.is in
    let P : List ℕ → Type 0 = λ xs. All (λ a. a < class_count c.args.named.now) xs in
    subst P (sym (c.as_slice.ensures ∙ is)) (lineage_classes c.args.named.now c.loop-c.c short)

pub loop-c-preserved : goal.loop-c-preserved
loop-c-preserved c =
    let short : c.loop-c.c < class_count c.args.named.now = omega (arith, c.class_count-c-end.ensures) in
    let is = entry_is c.args.lineages.now (lineage_of c.args.named.now) (class_count c.args.named.now) c.requires c.loop-c.c c.index-lineages-c.result short c.index-lineages-c.is in
    ap (map prop_numbers) c.in_ok-push.ensures.items
    ∙ row_more prop_numbers c.loop-c.orders.items (props_of c.args.named.now) c.loop-c.c c.in_ok-order.order c.loop-c.invariant (c.in_ok-order.ensures ∙ ap (flat_map (own_props c.args.named.now)) (c.as_slice.ensures ∙ is))
