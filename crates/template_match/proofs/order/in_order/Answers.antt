use Rattle.std.proofs.Common.{◌≡◌, Bool, ap, subst, sym, rules}
use Rattle.std.specs.List.Sorted.{IsSortedBy}
use Rattle.std.specs.Ordering.{is_lt}
use Rattle.std.proofs.lemmas.Fn.{always_returns_same}
use Rattle.std.proofs.lemmas.List.Sorted.{ranks_by}
use Rattle.qvtr_semantics.specs.declared.binding.Binding.{Binding}
use Rattle.template_match.specs.Order.{binding_order}
use Rattle.template_match.proofs.OrderLaws.{binding_total}
use Rattle.template_match.proofs.order.in_order.Goals as goal

pub returns-clause-sorted : goal.returns-clause-sorted
returns-clause-sorted c =
    let lt : Binding → Binding → Bool = λ x y. is_lt (binding_order c.args.variables.now x y) in
    let sorted = c.sort_unstable_by.ensures.sorted lt (ranks_by (binding_total c.args.variables.now) (λ x. x))
    (always_returns_same _ _ _ (λ a r f' k. (let is : r ≡ binding_order c.args.variables.now a.0.now a.1.0.now = search rules in ap is_lt is, search rules))) in
    subst (IsSortedBy lt) (sym c.from_vec.ensures) sorted
