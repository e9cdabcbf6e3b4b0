use Rattle.std.proofs.Common.{subst, sym}
use Rattle.std.specs.List.Sorted.{IsStrictlySortedBy}
use Rattle.template_match.specs.Rows.{next_order, row_order}
use Rattle.template_match.proofs.row_order.numbers_with.Goals as goal

pub sorted_with-requires : goal.sorted_with-requires
sorted_with-requires c =
    let rows = c.args.rows.now in
    let next = c.args.order.now.next in
    (next_order rows next, subst (IsStrictlySortedBy (row_order rows c.args.column next)) (sym c.as_slice.ensures) c.requires)
