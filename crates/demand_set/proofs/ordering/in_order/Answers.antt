-- The closure answers by the order of entries, which is total.
use Rattle.std.proofs.Common.{◌≡◌, Bool, ap, subst, sym, rules}
use Rattle.std.specs.Cmp.{on_total}
use Rattle.std.specs.List.Sorted.{IsSortedBy}
use Rattle.std.specs.Ordering.{is_lt}
use Rattle.std.proofs.lemmas.Fn.{always_returns_same}
use Rattle.std.proofs.lemmas.List.Sorted.{ranks_by}
use Rattle.entry_finding.specs.declared.numbered_entry.NumberedEntry.{NumberedEntry}
use Rattle.entry_finding.specs.Found.{entry_in}
use Rattle.demand_set.specs.Orders.{numbered_order}
use Rattle.demand_set.proofs.EntryLists.{entries_total}
use Rattle.demand_set.proofs.ordering.in_order.Goals as goal

pub returns-clause-sorted : goal.returns-clause-sorted
returns-clause-sorted c =
    let lt : NumberedEntry → NumberedEntry → Bool = λ d e. is_lt (numbered_order c.args.table.now d e) in
    let sorted = c.sort_unstable_by.ensures.sorted lt (ranks_by (on_total (entry_in c.args.table.now) entries_total) (λ e. e))
    (always_returns_same _ _ _ (λ a r f' k. (let is : r ≡ numbered_order c.args.table.now a.0.now a.1.0.now = search rules in ap is_lt is, search rules))) in
    subst (IsSortedBy lt) (sym c.from_vec.ensures) sorted
