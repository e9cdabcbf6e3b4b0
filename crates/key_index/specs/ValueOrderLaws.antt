-- The order of values is total, and ties exactly where two values are equal.
use Rattle.std.proofs.Common.{◌≡◌, ℕ, Bool, true, false, cond, List, [], refl, sym, ◌∙◌, ap}
use Rattle.std.specs.Prelude.{ℤ, pos}
use Rattle.std.specs.Ordering.{nat_cmp, int_cmp, bool_cmp, ordering_then, ordering_reverse, is_eq, on, then_cmp}
use Rattle.std.specs.Cmp.{IsTotalOrder}
use Rattle.std.specs.Cmp.Lexicographic.{bytes_decides}
use Rattle.std.specs.FinMap.{IsAntisymmetric, nat_cmp-IsAntisymmetric, int_cmp-IsAntisymmetric}
use Rattle.std.specs.declared.cmp.Ordering.{Ordering}
use Rattle.std.specs.declared.cmp.Ordering.TheVariants.{Less, Equal, Greater}
use Rattle.std.proofs.lemmas.Cmp.{on_total, then_total, nat_cmp_total, int_cmp_total}
use Rattle.mof_metamodel.specs.Characters.{text_cmp}
use Rattle.mof_metamodel.specs.TextLaws.{texts_total, text_ties}
use Rattle.mof_metamodel.specs.declared.desc.EnumId.{EnumId}
use Rattle.object_tables.specs.declared.value.Value.{Value}
use Rattle.object_tables.specs.declared.value.Value.TheVariants as values
use Rattle.key_index.specs.ValueOrder.{kind_number, value_order}

-- ---- the order by keys, each of which counts where those before it tie

abbrev first_of : Value → ℕ
first_of (values.Str s) = 0
first_of (values.Int i) = 0
first_of (values.Bool b) = cond b 1 0
first_of (values.Lit e n) = e.0

abbrev second_of : Value → ℕ
second_of (values.Str s) = 0
second_of (values.Int i) = 0
second_of (values.Bool b) = 0
second_of (values.Lit e n) = n

abbrev text_in : Value → List ℕ
text_in (values.Str s) = s
text_in (values.Int i) = []
text_in (values.Bool b) = []
text_in (values.Lit e n) = []

abbrev number_in : Value → ℤ
number_in (values.Str s) = pos 0
number_in (values.Int i) = i
number_in (values.Bool b) = pos 0
number_in (values.Lit e n) = pos 0

abbrev keyed_order : Value → Value → Ordering
keyed_order =
    then_cmp (on kind_number nat_cmp)
    (then_cmp (on first_of nat_cmp) (then_cmp (on second_of nat_cmp) (then_cmp (on text_in text_cmp) (on number_in int_cmp))))

keyed_total : IsTotalOrder keyed_order
keyed_total =
    then_total (on_total kind_number nat_cmp_total)
    (then_total (on_total first_of nat_cmp_total)
    (then_total (on_total second_of nat_cmp_total) (then_total (on_total text_in texts_total) (on_total number_in int_cmp_total))))

pub then_equal : (o : Ordering) → ordering_then o Equal ≡ o
then_equal Less = refl
then_equal Equal = refl
then_equal Greater = refl

bool_keyed : (b c : Bool) → bool_cmp b c ≡ ordering_then (nat_cmp (cond b 1 0) (cond c 1 0)) Equal
bool_keyed true true = refl
bool_keyed true false = refl
bool_keyed false true = refl
bool_keyed false false = refl

keyed : (v w : Value) → value_order v w ≡ keyed_order v w
keyed (values.Str s) (values.Str t) = sym (then_equal (text_cmp s t))
keyed (values.Str s) (values.Int j) = refl
keyed (values.Str s) (values.Bool c) = refl
keyed (values.Str s) (values.Lit f k) = refl
keyed (values.Int i) (values.Str t) = refl
keyed (values.Int i) (values.Int j) = refl
keyed (values.Int i) (values.Bool c) = refl
keyed (values.Int i) (values.Lit f k) = refl
keyed (values.Bool b) (values.Str t) = refl
keyed (values.Bool b) (values.Int j) = refl
keyed (values.Bool b) (values.Bool c) = bool_keyed b c
keyed (values.Bool b) (values.Lit f k) = refl
keyed (values.Lit e n) (values.Str t) = refl
keyed (values.Lit e n) (values.Int j) = refl
keyed (values.Lit e n) (values.Bool c) = refl
keyed (values.Lit e n) (values.Lit f k) = ap (ordering_then (nat_cmp e.0 f.0)) (sym (then_equal (nat_cmp n k)))

pub values_total : IsTotalOrder value_order
values_total = record {
  antisymm = λ v w. keyed v w ∙ keyed_total.antisymm v w ∙ ap ordering_reverse (sym (keyed w v));
  trans = λ u v w p q. keyed u w ∙ keyed_total.trans u v w (sym (keyed u v) ∙ p) (sym (keyed v w) ∙ q);
  congr = λ u v w p. keyed u w ∙ keyed_total.congr u v w (sym (keyed u v) ∙ p) ∙ sym (keyed v w);
}

-- ---- values that tie are equal

pub both_equal : (o q : Ordering) → ordering_then o q ≡ Equal → (o ≡ Equal) × (q ≡ Equal)
both_equal Less q h = absurd (cc)
both_equal Equal q h = (refl, h)
both_equal Greater q h = absurd (cc)

text_same : (s t : List ℕ) → text_cmp s t ≡ Equal → s ≡ t
text_same s t h = (bytes_decides s t).0 (text_ties s t ∙ ap is_eq h)

bool_same : (b c : Bool) → bool_cmp b c ≡ Equal → b ≡ c
bool_same true true h = refl
bool_same true false h = absurd (cc)
bool_same false true h = absurd (cc)
bool_same false false h = refl

enum_same : (e f : EnumId) → e.0 ≡ f.0 → e ≡ f
enum_same e f h = let make : ℕ → EnumId = λ n. record { 0 = n } in ap make h

pub value_exact : IsAntisymmetric value_order
value_exact (values.Str s) (values.Str t) h = ap values.Str (text_same s t h)
value_exact (values.Str s) (values.Int j) h = absurd (cc)
value_exact (values.Str s) (values.Bool c) h = absurd (cc)
value_exact (values.Str s) (values.Lit f k) h = absurd (cc)
value_exact (values.Int i) (values.Str t) h = absurd (cc)
value_exact (values.Int i) (values.Int j) h = ap values.Int (int_cmp-IsAntisymmetric i j h)
value_exact (values.Int i) (values.Bool c) h = absurd (cc)
value_exact (values.Int i) (values.Lit f k) h = absurd (cc)
value_exact (values.Bool b) (values.Str t) h = absurd (cc)
value_exact (values.Bool b) (values.Int j) h = absurd (cc)
value_exact (values.Bool b) (values.Bool c) h = ap values.Bool (bool_same b c h)
value_exact (values.Bool b) (values.Lit f k) h = absurd (cc)
value_exact (values.Lit e n) (values.Str t) h = absurd (cc)
value_exact (values.Lit e n) (values.Int j) h = absurd (cc)
value_exact (values.Lit e n) (values.Bool c) h = absurd (cc)
value_exact (values.Lit e n) (values.Lit f k) h =
    let both = both_equal (nat_cmp e.0 f.0) (nat_cmp n k) h in
    ap (λ x. values.Lit x n) (enum_same e f (nat_cmp-IsAntisymmetric e.0 f.0 both.0)) ∙ ap (λ x. values.Lit f x) (nat_cmp-IsAntisymmetric n k both.1)
