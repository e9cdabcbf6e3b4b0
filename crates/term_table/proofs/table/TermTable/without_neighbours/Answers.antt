use Rattle.std.proofs.Common.{◌∙◌, ap, rules}
use Rattle.std.specs.List.{dedup}
use Rattle.std.specs.Ordering.{eq_by_cmp}
use Rattle.std.proofs.lemmas.Fn.{dedup_same}
use Rattle.term_table.specs.Sorting.{number_order}
use Rattle.term_table.proofs.table.TermTable.without_neighbours.Goals as goal

pub returns : goal.returns
returns c =
    c.from_vec.ensures
    ∙ dedup_same _ (λ m n. eq_by_cmp (number_order c.args.self.now) m n) _ (λ x y b f' x' y' k. search rules) _ _ c.dedup_by.ensures.filtered
    ∙ ap (dedup (λ m n. eq_by_cmp (number_order c.args.self.now) m n)) c.into_vec-numbers.ensures
