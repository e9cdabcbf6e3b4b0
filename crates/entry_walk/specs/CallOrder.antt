-- An order of calls by which they are looked up. Those that tie are one.
use Rattle.std.specs.Ordering.{nat_cmp, ordering_then, eq_by_cmp}
use Rattle.std.specs.Cmp.{IsTotalOrder, IsEquivalence, on_total, then_total}
use Rattle.std.specs.Cmp.Lexicographic.{slice_cmp, lists_total}
use Rattle.std.specs.declared.cmp.Ordering.{Ordering}
use Rattle.std.proofs.lemmas.Cmp.{eq_by_cmp_equiv, nat_cmp_total}
use Rattle.term_table.specs.NumberOrder.{numbered_value_order, numbered_values_total}
use Rattle.entry_making.specs.declared.numbered_call.NumberedCall.{NumberedCall}
use Rattle.entry_walk.specs.declared.call_key.CallKey.{CallKey}

-- by the number of the relation, then by the roots
abbrev pub call_order : NumberedCall → NumberedCall → Ordering
call_order c d = ordering_then (nat_cmp c.rel d.rel) (slice_cmp numbered_value_order c.roots d.roots)

abbrev pub key_order : CallKey → CallKey → Ordering
key_order k l = call_order k.call l.call

pub calls_total : IsTotalOrder call_order
calls_total = then_total (on_total (λ (c : NumberedCall). c.rel) nat_cmp_total) (on_total (λ (c : NumberedCall). c.roots) (lists_total numbered_values_total))

pub key_total : IsTotalOrder key_order
key_total = on_total (λ (k : CallKey). k.call) calls_total

pub same_key_equiv : IsEquivalence (eq_by_cmp key_order)
same_key_equiv = eq_by_cmp_equiv key_total
