-- An order of calls, by which they are looked up: by the number of the relation, and then by the values of the roots, place by place. Calls
-- that tie are one.
use Rattle.std.specs.Ordering.{nat_cmp, ordering_then, eq_by_cmp}
use Rattle.std.specs.Cmp.{IsTotalOrder, IsEquivalence, on_total, then_total, nat_cmp_total}
use Rattle.std.specs.Cmp.Lexicographic.{slice_cmp, lists_total}
use Rattle.std.proofs.lemmas.Cmp.{eq_by_cmp_equiv}
use Rattle.std.specs.declared.cmp.Ordering.{Ordering}
use Rattle.qvtr_semantics.specs.Templates.{Values}
use Rattle.qvtr_semantics.specs.Calls.{RelationCall}
use Rattle.template_match.specs.Order.{optional_order}
use Rattle.template_match.specs.OrderLaws.{optional_total}

abbrev pub roots_order : Values → Values → Ordering
roots_order = slice_cmp optional_order

abbrev pub call_order : RelationCall → RelationCall → Ordering
call_order c d = ordering_then (nat_cmp c.rel d.rel) (roots_order c.roots d.roots)

pub same_root_equiv : IsEquivalence (eq_by_cmp optional_order)
same_root_equiv = eq_by_cmp_equiv optional_total

pub call_total : IsTotalOrder call_order
call_total = then_total (on_total (λ (c : RelationCall). c.rel) nat_cmp_total) (on_total (λ (c : RelationCall). c.roots) (lists_total optional_total))

pub same_call_equiv : IsEquivalence (eq_by_cmp call_order)
same_call_equiv = eq_by_cmp_equiv call_total
