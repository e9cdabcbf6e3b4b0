use Rattle.std.proofs.Common.{◌≡◌, ℕ, Bool, ap, rules}
use Rattle.std.specs.Ordering.{is_lt}
use Rattle.std.proofs.lemmas.Fn.{always_returns_same}
use Rattle.std.proofs.lemmas.List.Sorted.{ranks_by}
use Rattle.template_match.specs.Rows.{row_order}
use Rattle.template_match.proofs.CellLaws.{rows_total}
use Rattle.template_match.proofs.row_order.in_order.Goals as goal

pub returns-clause-sorted : goal.returns-clause-sorted
returns-clause-sorted c =
    let order = row_order c.args.rows.now c.args.column c.args.next in
    let lt : ℕ → ℕ → Bool = λ x y. is_lt (order x y) in
    c.sort_unstable_by.ensures.sorted lt (ranks_by (rows_total c.args.rows.now c.args.column c.args.next) (λ r. r))
    (always_returns_same _ _ _ (λ a r f' k. (let is : r ≡ order a.0.now a.1.0.now = search rules in ap is_lt is, search rules)))
