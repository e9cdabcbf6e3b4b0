use Rattle.std.proofs.Common.{◌≡◌, ℕ, Bool, ap, subst, sym, rules}
use Rattle.std.specs.Cmp.{on_total}
use Rattle.std.specs.List.Sorted.{IsSortedBy}
use Rattle.std.specs.Ordering.{is_lt}
use Rattle.std.proofs.lemmas.Fn.{always_returns_same}
use Rattle.std.proofs.lemmas.List.Sorted.{ranks_by}
use Rattle.term_table.specs.TermTables.{term_at}
use Rattle.term_table.specs.Sorting.{number_order}
use Rattle.term_table.proofs.TermOrderLaws.{terms_total}
use Rattle.term_table.proofs.table.TermTable.in_order.Goals as goal

pub returns-clause-sorted : goal.returns-clause-sorted
returns-clause-sorted c =
    let lt : ℕ → ℕ → Bool = λ m n. is_lt (number_order c.args.self.now m n) in
    let sorted = c.sort_unstable_by.ensures.sorted lt (ranks_by (on_total (term_at c.args.self.now) terms_total) (λ n. n))
    (always_returns_same _ _ _ (λ a r f' k. (let is : r ≡ number_order c.args.self.now a.0.now a.1.0.now = search rules in ap is_lt is, search rules))) in
    subst (IsSortedBy lt) (sym c.from_vec.ensures) sorted
