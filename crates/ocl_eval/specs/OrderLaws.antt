-- The order of data is total, is that of `is_before`, and ties exactly where two data are the same.
use Rattle.std.proofs.Common.{◌≡◌, ℕ, Bool, true, false, cond, refl, sym, ◌∙◌, ap, arith, subst}
use Rattle.std.specs.Prelude.{◌&&◌, ◌||◌, ◌==◌, nat_lt, int_lt, ℤ, not}
use Rattle.std.specs.Bool.{beq}
use Rattle.std.specs.Ordering.{nat_cmp, bool_cmp, int_eq, ordering_then, ordering_reverse, is_lt, is_eq, on, then_cmp, eq_by_cmp}
use Rattle.std.specs.Cmp.{IsTotalOrder, IsEquivalence, both_ways}
use Rattle.std.specs.Cmp.Lexicographic.{bytes_decides}
use Rattle.std.specs.declared.cmp.Ordering.{Ordering}
use Rattle.std.specs.declared.cmp.Ordering.TheVariants.{Less, Equal, Greater}
use Rattle.std.proofs.lemmas.Cmp.{on_total, then_total, nat_cmp_total}
use Rattle.std.proofs.lemmas.Bool.{ltb-true, eqb-true, eq-eqb, ne_eqb, and_parts, and_from, false≢true}
use Rattle.std.proofs.lemmas.Bool.Decides.{Decides-int_eq}
use Rattle.mof_metamodel.specs.TextLaws.{text_ties}
use Rattle.mof_metamodel.specs.declared.desc.EnumId.{EnumId}
use Rattle.object_tables.specs.declared.value.ObjId.{ObjId}
use Rattle.object_tables.specs.declared.value.Value.{Value}
use Rattle.object_tables.specs.declared.value.Value.TheVariants as values
use Rattle.qvtr_semantics.specs.declared.datum.Datum.{Datum}
use Rattle.qvtr_semantics.specs.declared.datum.Datum.TheVariants.{Obj, Val}
use Rattle.qvtr_semantics.specs.Data.{same_value, same_datum, is_value_before, is_before}
use Rattle.key_index.specs.ValueOrder.{value_order}
use Rattle.key_index.specs.ValueOrderLaws.{then_equal, values_total}
use Rattle.ocl_eval.specs.Order.{datum_order}

-- ---- comparisons in turn

lt_in_turn : (a b : Bool) (o : Ordering) → is_lt (ordering_then (cond a Less (cond b Equal Greater)) o) ≡ a || (b && is_lt o)
lt_in_turn true b o = refl
lt_in_turn false true o = refl
lt_in_turn false false o = refl

lt_then : (m n : ℕ) (o : Ordering) → is_lt (ordering_then (nat_cmp m n) o) ≡ nat_lt m n || ((m == n) && is_lt o)
lt_then m n o = lt_in_turn (nat_lt m n) (m == n) o

lt_alone : (a b : Bool) → is_lt (cond a Less (cond b Equal Greater)) ≡ a
lt_alone true b = refl
lt_alone false true = refl
lt_alone false false = refl

eq_in_turn : (a b : Bool) (o : Ordering) → (a ≡ true → b ≡ false) → (b && is_eq o) ≡ is_eq (ordering_then (cond a Less (cond b Equal Greater)) o)
eq_in_turn true b o h = ap (λ c. c && is_eq o) (h refl)
eq_in_turn false true o h = refl
eq_in_turn false false o h = refl

eq_alone : (a b : Bool) → (a ≡ true → b ≡ false) → b ≡ is_eq (cond a Less (cond b Equal Greater))
eq_alone true b h = h refl
eq_alone false true h = refl
eq_alone false false h = refl

lt_signed : (a b : Bool) → is_lt (cond a Less (cond b Greater Equal)) ≡ a
lt_signed true b = refl
lt_signed false true = refl
lt_signed false false = refl

apart : (m n : ℕ) → nat_lt m n ≡ true → (m == n) ≡ false
apart m n h = ne_eqb m n (λ e. absurd (omega (arith, ltb-true m n h, e)))

pub ties_then : (m n : ℕ) (o : Ordering) → ((m == n) && is_eq o) ≡ is_eq (ordering_then (nat_cmp m n) o)
ties_then m n o = eq_in_turn (nat_lt m n) (m == n) o (apart m n)

nat_ties : (m n : ℕ) → (m == n) ≡ is_eq (nat_cmp m n)
nat_ties m n = eq_alone (nat_lt m n) (m == n) (apart m n)

-- two numbers, one after the other
lt_pair : (m n o p : ℕ) → is_lt (ordering_then (nat_cmp m n) (nat_cmp o p)) ≡ nat_lt m n || ((m == n) && nat_lt o p)
lt_pair m n o p = lt_then m n (nat_cmp o p) ∙ ap (λ b. nat_lt m n || ((m == n) && b)) (lt_alone (nat_lt o p) (o == p))

ties_pair : (m n o p : ℕ) → ((m == n) && (o == p)) ≡ is_eq (ordering_then (nat_cmp m n) (nat_cmp o p))
ties_pair m n o p = ap (λ b. (m == n) && b) (nat_ties o p) ∙ ties_then m n (nat_cmp o p)

bool_lt : (b c : Bool) → is_lt (bool_cmp b c) ≡ not b && c
bool_lt true true = refl
bool_lt true false = refl
bool_lt false true = refl
bool_lt false false = refl

bool_ties : (b c : Bool) → beq b c ≡ is_eq (bool_cmp b c)
bool_ties true true = refl
bool_ties true false = refl
bool_ties false true = refl
bool_ties false false = refl

-- ---- the order is that of `is_before`

value_before : (v w : Value) → is_lt (value_order v w) ≡ is_value_before v w
value_before (values.Str s) (values.Str t) = refl
value_before (values.Str s) (values.Int j) = refl
value_before (values.Str s) (values.Bool c) = refl
value_before (values.Str s) (values.Lit f k) = refl
value_before (values.Int i) (values.Str t) = refl
value_before (values.Int i) (values.Int j) = lt_signed (int_lt i j) (int_lt j i)
value_before (values.Int i) (values.Bool c) = refl
value_before (values.Int i) (values.Lit f k) = refl
value_before (values.Bool b) (values.Str t) = refl
value_before (values.Bool b) (values.Int j) = refl
value_before (values.Bool b) (values.Bool c) = bool_lt b c
value_before (values.Bool b) (values.Lit f k) = refl
value_before (values.Lit e n) (values.Str t) = refl
value_before (values.Lit e n) (values.Int j) = refl
value_before (values.Lit e n) (values.Bool c) = refl
value_before (values.Lit e n) (values.Lit f k) = lt_pair e.0 f.0 n k

pub before_by_order : (d e : Datum) → is_lt (datum_order d e) ≡ is_before d e
before_by_order (Obj m o) (Obj n p) = lt_pair m n o.0 p.0
before_by_order (Obj m o) (Val n w) = refl
before_by_order (Val m v) (Obj n p) = refl
before_by_order (Val m v) (Val n w) = lt_then m n (value_order v w) ∙ ap (λ b. nat_lt m n || ((m == n) && b)) (value_before v w)

-- ---- it ties where data are the same

value_ties : (v w : Value) → same_value v w ≡ is_eq (value_order v w)
value_ties (values.Str s) (values.Str t) = text_ties s t
value_ties (values.Str s) (values.Int j) = refl
value_ties (values.Str s) (values.Bool c) = refl
value_ties (values.Str s) (values.Lit f k) = refl
value_ties (values.Int i) (values.Str t) = refl
value_ties (values.Int i) (values.Int j) = refl
value_ties (values.Int i) (values.Bool c) = refl
value_ties (values.Int i) (values.Lit f k) = refl
value_ties (values.Bool b) (values.Str t) = refl
value_ties (values.Bool b) (values.Int j) = refl
value_ties (values.Bool b) (values.Bool c) = bool_ties b c
value_ties (values.Bool b) (values.Lit f k) = refl
value_ties (values.Lit e n) (values.Str t) = refl
value_ties (values.Lit e n) (values.Int j) = refl
value_ties (values.Lit e n) (values.Bool c) = refl
value_ties (values.Lit e n) (values.Lit f k) = ties_pair e.0 f.0 n k

pub ties_where_same : (d e : Datum) → same_datum d e ≡ eq_by_cmp datum_order d e
ties_where_same (Obj m o) (Obj n p) = ties_pair m n o.0 p.0
ties_where_same (Obj m o) (Val n w) = refl
ties_where_same (Val m v) (Obj n p) = refl
ties_where_same (Val m v) (Val n w) = ap (λ b. (m == n) && b) (value_ties v w) ∙ ties_then m n (value_order v w)

-- ---- the order by keys, each of which counts where those before it tie

abbrev is_value_key : Datum → ℕ
is_value_key (Obj m o) = 0
is_value_key (Val m v) = 1

abbrev model_key : Datum → ℕ
model_key (Obj m o) = m
model_key (Val m v) = m

abbrev object_key : Datum → ℕ
object_key (Obj m o) = o.0
object_key (Val m v) = 0

abbrev value_key : Datum → Value
value_key (Obj m o) = values.Bool false
value_key (Val m v) = v

abbrev keyed_order : Datum → Datum → Ordering
keyed_order = then_cmp (on is_value_key nat_cmp) (then_cmp (on model_key nat_cmp) (then_cmp (on object_key nat_cmp) (on value_key value_order)))

keyed_total : IsTotalOrder keyed_order
keyed_total =
    then_total (on_total is_value_key nat_cmp_total)
    (then_total (on_total model_key nat_cmp_total) (then_total (on_total object_key nat_cmp_total) (on_total value_key values_total)))

keyed : (d e : Datum) → datum_order d e ≡ keyed_order d e
keyed (Obj m o) (Obj n p) = ap (ordering_then (nat_cmp m n)) (sym (then_equal (nat_cmp o.0 p.0)))
keyed (Obj m o) (Val n w) = refl
keyed (Val m v) (Obj n p) = refl
keyed (Val m v) (Val n w) = refl

pub order_total : IsTotalOrder datum_order
order_total = record {
  antisymm = λ d e. keyed d e ∙ keyed_total.antisymm d e ∙ ap ordering_reverse (sym (keyed e d));
  trans = λ d e f p q. keyed d f ∙ keyed_total.trans d e f (sym (keyed d e) ∙ p) (sym (keyed e f) ∙ q);
  congr = λ d e f p. keyed d f ∙ keyed_total.congr d e f (sym (keyed d e) ∙ p) ∙ sym (keyed e f);
}

-- ---- the same data are equal

enum_same : (e f : EnumId) → e.0 ≡ f.0 → e ≡ f
enum_same e f h = let make : ℕ → EnumId = λ n. record { 0 = n } in ap make h

object_same : (o p : ObjId) → o.0 ≡ p.0 → o ≡ p
object_same o p h = let make : ℕ → ObjId = λ n. record { 0 = n } in ap make h

bool_same : (b c : Bool) → beq b c ≡ true → b ≡ c
bool_same true true h = refl
bool_same true false h = absurd (false≢true h)
bool_same false true h = absurd (false≢true h)
bool_same false false h = refl

int_same : (i j : ℤ) → int_eq i j ≡ true → i ≡ j
int_same i j h = (Decides-int_eq i j).0 h

int_itself : (i : ℤ) → int_eq i i ≡ true
int_itself i = (Decides-int_eq i i).1 refl

value_same : (v w : Value) → same_value v w ≡ true → v ≡ w
value_same (values.Str s) (values.Str t) h = ap values.Str ((bytes_decides s t).0 h)
value_same (values.Str s) (values.Int j) h = absurd (false≢true h)
value_same (values.Str s) (values.Bool c) h = absurd (false≢true h)
value_same (values.Str s) (values.Lit f k) h = absurd (false≢true h)
value_same (values.Int i) (values.Str t) h = absurd (false≢true h)
value_same (values.Int i) (values.Int j) h = ap values.Int (int_same i j h)
value_same (values.Int i) (values.Bool c) h = absurd (false≢true h)
value_same (values.Int i) (values.Lit f k) h = absurd (false≢true h)
value_same (values.Bool b) (values.Str t) h = absurd (false≢true h)
value_same (values.Bool b) (values.Int j) h = absurd (false≢true h)
value_same (values.Bool b) (values.Bool c) h = ap values.Bool (bool_same b c h)
value_same (values.Bool b) (values.Lit f k) h = absurd (false≢true h)
value_same (values.Lit e n) (values.Str t) h = absurd (false≢true h)
value_same (values.Lit e n) (values.Int j) h = absurd (false≢true h)
value_same (values.Lit e n) (values.Bool c) h = absurd (false≢true h)
value_same (values.Lit e n) (values.Lit f k) h = let both = and_parts (e.0 == f.0) (n == k) h in ap (λ x. values.Lit x n) (enum_same e f (eqb-true _ _ both.0)) ∙ ap (λ x. values.Lit f x) (eqb-true n k both.1)

value_itself : (v : Value) → same_value v v ≡ true
value_itself (values.Str s) = (bytes_decides s s).1 refl
value_itself (values.Int i) = int_itself i
value_itself (values.Bool true) = refl
value_itself (values.Bool false) = refl
value_itself (values.Lit e n) = and_from (e.0 == e.0) (n == n) (eq-eqb e.0 e.0 refl) (eq-eqb n n refl)

same_itself : (d : Datum) → same_datum d d ≡ true
same_itself (Obj m o) = and_from (m == m) (o.0 == o.0) (eq-eqb m m refl) (eq-eqb o.0 o.0 refl)
same_itself (Val m v) = and_from (m == m) (same_value v v) (eq-eqb m m refl) (value_itself v)

same_equal : (d e : Datum) → same_datum d e ≡ true → d ≡ e
same_equal (Obj m o) (Obj n p) h = let both = and_parts (m == n) (o.0 == p.0) h in ap (λ x. Obj x o) (eqb-true m n both.0) ∙ ap (λ x. Obj n x) (object_same o p (eqb-true _ _ both.1))
same_equal (Obj m o) (Val n w) h = absurd (false≢true h)
same_equal (Val m v) (Obj n p) h = absurd (false≢true h)
same_equal (Val m v) (Val n w) h = let both = and_parts (m == n) (same_value v w) h in ap (λ x. Val x v) (eqb-true m n both.0) ∙ ap (λ x. Val n x) (value_same v w both.1)

pub same_decides : (d e : Datum) → (same_datum d e ≡ true → d ≡ e) × (d ≡ e → same_datum d e ≡ true)
same_decides d e = (same_equal d e, λ h. subst (λ x. same_datum d x ≡ true) h (same_itself d))

swapped : (d e : Datum) → same_datum d e ≡ true → same_datum e d ≡ true
swapped d e h = (same_decides e d).1 (sym ((same_decides d e).0 h))

pub same_swapped : (d e : Datum) → same_datum d e ≡ same_datum e d
same_swapped d e = both_ways (same_datum d e) (same_datum e d) (swapped d e) (swapped e d)

-- the same data are the same to others
pub same_equiv : IsEquivalence same_datum
same_equiv = record {
  refl = same_itself;
  symm = same_swapped;
  congr = λ d e f h. ap (λ x. same_datum x f) ((same_decides d e).0 h);
}
