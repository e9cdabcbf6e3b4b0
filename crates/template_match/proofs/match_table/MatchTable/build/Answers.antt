use Rattle.std.proofs.Common.{List, subst}
use Rattle.qvtr_semantics.specs.declared.datum.Datum.{Datum}
use Rattle.template_match.specs.Rows.{AreRowOrders}
use Rattle.template_match.proofs.match_table.MatchTable.build.Goals as goal

pub invariant_of-result : goal.invariant_of-result
invariant_of-result c = subst (λ (rows : List (List Datum)). AreRowOrders rows c.in_ok-orders.orders) c.as_slice.ensures c.in_ok-orders.ensures
