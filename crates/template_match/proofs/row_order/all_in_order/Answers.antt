use Rattle.std.proofs.Common.{subst, sym}
use Rattle.template_match.specs.Rows.{IsRowOrder}
use Rattle.template_match.proofs.CellLaws.{ordered}
use Rattle.template_match.proofs.row_order.all_in_order.Goals as goal

pub returns : goal.returns
returns c =
    let rows = c.args.rows.now in
    subst (IsRowOrder rows c.args.column c.args.next) (sym c.from_vec.ensures)
    (ordered rows c.args.column c.args.next c.in_ok-numbers.numbers.items c.in_order-sorted.result.items c.without_neighbours.result.items c.in_ok-numbers.ensures
    c.in_order-sorted.ensures.same c.in_order-sorted.ensures.sorted c.without_neighbours.ensures)
