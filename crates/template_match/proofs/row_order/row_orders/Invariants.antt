use Rattle.std.proofs.Common.{◌≡◌, length}
use Rattle.template_match.specs.Rows.{AreRowOrders}
use Rattle.template_match.proofs.row_order.row_orders.Given as goal

abbrev pub invariant-loop-column : goal.invariant-loop-column
invariant-loop-column l = (length l.orders ≡ l.column) × AreRowOrders l.rows l.orders
