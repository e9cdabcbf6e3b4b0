use Rattle.std.proofs.Common.{◌≡◌, length, map, ℕ, List, subst, sym, ap, ◌∙◌}
use Rattle.std.specs.List.{range_with_len}
use Rattle.call_graph.specs.Graphs.{Graph, Leads}
use Rattle.repair_semantics.specs.TargetItems.{TargetItem, target_items}
use Rattle.entry_making.specs.Orders.{HasNoCycle, IsOrder}
use Rattle.entry_making.specs.Items.{shown_item}
use Rattle.entry_making.specs.KeyedVariables.{KeyedVariable, shown_keyed, key_row, keyed_at, keyed_among, AreVariablesOf, AreMadeInOrder}
use Rattle.entry_making.proofs.KeyedLaws.{rows, rows_acyclic, ordered, in_relation, in_order}
use Rattle.entry_making.proofs.ResultLaws.{told_more}
use Rattle.entry_making.proofs.keyed.keyed_of.Goals as goal

pub order_of-requires : goal.order_of-requires
order_of-requires c =
    let program = c.args.task.now.program.now in
    let desc = c.args.task.now.meta.now in
    let rel = c.args.task.now.rel.now in
    let same = c.as_slice.ensures ∙ c.in_ok-rows.ensures ∙ ap (λ (its : List TargetItem). map (λ v. key_row (keyed_at program desc rel its v)) (range_with_len 0 (length rel.vars))) c.requires.items in
    subst (λ g. HasNoCycle (Leads g)) (sym same) (rows_acyclic program desc rel c.requires.acyclic)

pub returns-clause-within : goal.returns-clause-within
returns-clause-within c =
    let program = c.args.task.now.program.now in
    let desc = c.args.task.now.meta.now in
    let rel = c.args.task.now.rel.now in
    let same = c.as_slice.ensures ∙ c.in_ok-rows.ensures ∙ ap (λ (its : List TargetItem). map (λ v. key_row (keyed_at program desc rel its v)) (range_with_len 0 (length rel.vars))) c.requires.items in
    let order = subst (λ g. IsOrder g c.in_ok-order.order) same c.in_ok-order.ensures in
    told_more c.keyed_among.result (λ ks. map shown_keyed ks ≡ keyed_among program desc rel (map shown_item c.args.task.now.items.now) c.as_slice-2.result.now) (λ ks. AreVariablesOf rel (map shown_keyed ks)) c.keyed_among.ensures (λ ks is.
    subst (AreVariablesOf rel) (sym (is ∙ ap (λ (its : List TargetItem). keyed_among program desc rel its c.as_slice-2.result.now) c.requires.items ∙ ap (λ (vs : List ℕ). keyed_among program desc rel (target_items program rel) vs) c.as_slice-2.ensures)) (in_relation program desc rel c.in_ok-order.order order))

pub returns-clause-order : goal.returns-clause-order
returns-clause-order c =
    let program = c.args.task.now.program.now in
    let desc = c.args.task.now.meta.now in
    let rel = c.args.task.now.rel.now in
    let same = c.as_slice.ensures ∙ c.in_ok-rows.ensures ∙ ap (λ (its : List TargetItem). map (λ v. key_row (keyed_at program desc rel its v)) (range_with_len 0 (length rel.vars))) c.requires.items in
    let order = subst (λ g. IsOrder g c.in_ok-order.order) same c.in_ok-order.ensures in
    told_more c.keyed_among.result (λ ks. map shown_keyed ks ≡ keyed_among program desc rel (map shown_item c.args.task.now.items.now) c.as_slice-2.result.now) (λ ks. AreMadeInOrder program desc rel (map shown_keyed ks)) c.keyed_among.ensures (λ ks is.
    subst (AreMadeInOrder program desc rel) (sym (is ∙ ap (λ (its : List TargetItem). keyed_among program desc rel its c.as_slice-2.result.now) c.requires.items ∙ ap (λ (vs : List ℕ). keyed_among program desc rel (target_items program rel) vs) c.as_slice-2.ensures)) (in_order program desc rel c.in_ok-order.order order))
