use Rattle.std.proofs.Common.{◌≡◌, ◌+◌, ◌++◌, ◌∷◌, [], List, sym, subst, refl, length, length-append, arith}
use Rattle.template_match.specs.declared.column_order.ColumnOrder.{ColumnOrder}
use Rattle.template_match.specs.Rows.{IsRowOrder, AreRowOrders}
use Rattle.template_match.proofs.CellLaws.{no_orders, more_orders}
use Rattle.template_match.proofs.row_order.row_orders.Goals as goal

pub loop-column-init : goal.loop-column-init
loop-column-init c =
    let rows = c.args.rows.now in
    subst (λ (os : List ColumnOrder). (length os ≡ 0) × AreRowOrders rows os) (sym c.new-orders.ensures) (refl, no_orders rows)

pub loop-column-preserved : goal.loop-column-preserved
loop-column-preserved c =
    let rows = c.args.rows.now in
    let orders = c.loop-column.orders in
    let column = c.loop-column.column in
    let last = c.in_ok-column_order.field-0 in
    let places = c.loop-column.invariant.0 in
    let one = length-append orders (last ∷ []) in
    let long : length (orders ++ last ∷ []) ≡ column + 1 = omega (arith, one, places) in
    subst (λ (os : List ColumnOrder). (length os ≡ column + 1) × AreRowOrders rows os) (sym c.in_ok-push.ensures.ok)
    (long, more_orders rows orders last c.loop-column.invariant.1 (subst (λ n. IsRowOrder rows n last.next last.numbers) (sym places) c.in_ok-column_order.ensures))
