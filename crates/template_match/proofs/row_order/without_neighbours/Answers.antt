use Rattle.std.proofs.Common.{rules}
use Rattle.std.specs.Ordering.{eq_by_cmp}
use Rattle.std.proofs.lemmas.Fn.{dedup_same}
use Rattle.template_match.specs.Rows.{row_order}
use Rattle.template_match.proofs.row_order.without_neighbours.Goals as goal

pub returns : goal.returns
returns c =
    dedup_same _ (λ r s. eq_by_cmp (row_order c.args.rows.now c.args.column c.args.next) r s) _ (λ x y b f' x' y' k. search rules) _ _ c.dedup_by.ensures.filtered
