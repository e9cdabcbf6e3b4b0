-- An order of numbered values and terms by which they are looked up: terms by their numbers. Those that tie are one.
use Rattle.std.specs.Prelude.{◌≡◌}
use Rattle.std.specs.Ordering.{nat_cmp, ordering_then, ordering_reverse, eq_by_cmp, is_lt, is_eq}
use Rattle.std.specs.Cmp.{IsTotalOrder, IsEquivalence, on_total, then_total}
use Rattle.std.specs.Cmp.Lexicographic.{slice_cmp, lists_total}
use Rattle.std.specs.declared.cmp.Ordering.{Ordering}
use Rattle.std.specs.declared.cmp.Ordering.TheVariants.{Less, Equal, Greater}
use Rattle.std.proofs.Common.{refl, ap}
use Rattle.std.proofs.lemmas.Bool.{false≢true}
use Rattle.std.proofs.lemmas.Cmp.{eq_by_cmp_equiv, nat_cmp_total}
use Rattle.ocl_eval.specs.Order.{datum_order}
use Rattle.ocl_eval.specs.OrderLaws.{order_total}
use Rattle.term_table.specs.declared.numbered.NumberedValue.{NumberedValue}
use Rattle.term_table.specs.declared.numbered.NumberedValue.TheVariants.{Val, Term}
use Rattle.term_table.specs.declared.numbered.NumberedTerm.{NumberedTerm}

-- data come before terms
abbrev pub numbered_value_order : NumberedValue → NumberedValue → Ordering
numbered_value_order (Val d) (Val e) = datum_order d e
numbered_value_order (Val d) (Term n) = Less
numbered_value_order (Term m) (Val e) = Greater
numbered_value_order (Term m) (Term n) = nat_cmp m n

-- by the number of the class, then by the key values
abbrev pub numbered_term_order : NumberedTerm → NumberedTerm → Ordering
numbered_term_order t u = ordering_then (nat_cmp t.class.0 u.class.0) (slice_cmp numbered_value_order t.keys u.keys)

-- ---- laws

values_trans : (x y z : NumberedValue) → numbered_value_order x y ≡ Less → numbered_value_order y z ≡ Less → numbered_value_order x z ≡ Less
values_trans (Val d) (Val e) (Val f) h k = order_total.trans d e f h k
values_trans (Val d) (Val e) (Term n) h k = refl
values_trans (Val d) (Term m) (Val f) h k = absurd (false≢true (ap is_lt k))
values_trans (Val d) (Term m) (Term n) h k = refl
values_trans (Term l) (Val e) (Val f) h k = absurd (false≢true (ap is_lt h))
values_trans (Term l) (Val e) (Term n) h k = absurd (false≢true (ap is_lt h))
values_trans (Term l) (Term m) (Val f) h k = absurd (false≢true (ap is_lt k))
values_trans (Term l) (Term m) (Term n) h k = nat_cmp_total.trans l m n h k

values_congr : (x y z : NumberedValue) → numbered_value_order x y ≡ Equal → numbered_value_order x z ≡ numbered_value_order y z
values_congr (Val d) (Val e) (Val f) h = order_total.congr d e f h
values_congr (Val d) (Val e) (Term n) h = refl
values_congr (Val d) (Term m) z h = absurd (false≢true (ap is_eq h))
values_congr (Term l) (Val e) z h = absurd (false≢true (ap is_eq h))
values_congr (Term l) (Term m) (Val f) h = refl
values_congr (Term l) (Term m) (Term n) h = nat_cmp_total.congr l m n h

values_antisymm : (x y : NumberedValue) → numbered_value_order x y ≡ ordering_reverse (numbered_value_order y x)
values_antisymm (Val d) (Val e) = order_total.antisymm d e
values_antisymm (Val d) (Term n) = refl
values_antisymm (Term m) (Val e) = refl
values_antisymm (Term m) (Term n) = nat_cmp_total.antisymm m n

pub numbered_values_total : IsTotalOrder numbered_value_order
numbered_values_total = record { antisymm = values_antisymm; trans = values_trans; congr = values_congr }

pub numbered_terms_total : IsTotalOrder numbered_term_order
numbered_terms_total =
    then_total (on_total (λ (t : NumberedTerm). t.class.0) nat_cmp_total) (on_total (λ (t : NumberedTerm). t.keys) (lists_total numbered_values_total))

pub same_numbered_value_equiv : IsEquivalence (eq_by_cmp numbered_value_order)
same_numbered_value_equiv = eq_by_cmp_equiv numbered_values_total

pub same_numbered_term_equiv : IsEquivalence (eq_by_cmp numbered_term_order)
same_numbered_term_equiv = eq_by_cmp_equiv numbered_terms_total
