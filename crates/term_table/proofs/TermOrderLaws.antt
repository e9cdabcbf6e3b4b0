-- The orders of terms and of values are total.
use Rattle.std.specs.Prelude.{◌≡◌, List, [], ◌∷◌, map}
use Rattle.std.specs.Cmp.{IsTotalOrder}
use Rattle.std.specs.FinMap.{nat_cmp-IsAntisymmetric}
use Rattle.std.specs.Ordering.{nat_cmp, ordering_then, is_eq}
use Rattle.std.specs.declared.cmp.Ordering.{Ordering}
use Rattle.std.specs.declared.cmp.Ordering.TheVariants.{Less, Equal, Greater}
use Rattle.std.proofs.Common.{refl, ap, sym, ◌∙◌, subst}
use Rattle.std.proofs.lemmas.Cmp.{nat_cmp_total}
use Rattle.qvtr_semantics.specs.declared.datum.Datum.{Datum}
use Rattle.ocl_eval.specs.Order.{datum_order}
use Rattle.ocl_eval.specs.OrderLaws.{order_total, ties_where_same, same_decides}
use Rattle.repair_semantics.specs.declared.term.Term.{Term, roll-Term, out-Term, roll-out-Term, map-Term, ind-Term}
use Rattle.repair_semantics.specs.declared.term.TermValue.{TermValue, roll-TermValue, out-TermValue, out-roll-TermValue, roll-out-TermValue, map-TermValue, ind-TermValue}
use Rattle.repair_semantics.specs.declared.term.TermValue.TheOpen as of
use Rattle.repair_semantics.specs.Terms.{ValueOrder, TermOrder, keys_against, datum_against, term_against, terms_against, term_order, value_order}
use Rattle.repair_semantics.proofs.TermLaws.{order_is, order_of_datum, order_of_term}
use Rattle.repair_semantics.proofs.EntryOrderLaws.{values_turned, terms_turned}
use Rattle.term_table.proofs.ComparedLaws.{tied_is}

-- ---- comparisons in turn

-- three elements that are compared first, then by what follows
then_below : {X : Type 0} (order : X → X → Ordering) → ((x y : X) → order x y ≡ Equal → x ≡ y) → (x y z : X) (p q r : Ordering)
    → (order x y ≡ Less → order y z ≡ Less → order x z ≡ Less) → ordering_then (order x y) p ≡ Less → ordering_then (order y z) q ≡ Less
    → (p ≡ Less → q ≡ Less → r ≡ Less) → ordering_then (order x z) r ≡ Less
then_below {X} order exact x y z p q r below first second rest = by (order x y) (order y z) refl refl first second
  where
    by : (o n : Ordering) → order x y ≡ o → order y z ≡ n → ordering_then o p ≡ Less → ordering_then n q ≡ Less → ordering_then (order x z) r ≡ Less
    by Less Less a b h k = ap (λ m. ordering_then m r) (below a b)
    by Less Equal a b h k = ap (λ m. ordering_then m r) (ap (order x) (sym (exact y z b)) ∙ a)
    by Less Greater a b h k = absurd (cc)
    by Equal Less a b h k = ap (λ m. ordering_then m r) (ap (λ w. order w z) (exact x y a) ∙ b)
    by Equal Equal a b h k = ap (λ m. ordering_then m r) (ap (λ w. order w z) (exact x y a) ∙ b) ∙ rest h k
    by Equal Greater a b h k = absurd (cc)
    by Greater n a b h k = absurd (cc)

-- ---- values that tie are one

value_is : (w : TermValue) (l : of.TermValue-F TermValue Term) → out-TermValue w ≡ l → w ≡ roll-TermValue l
value_is w l is = sym (roll-out-TermValue w) ∙ ap roll-TermValue is

datum_order_is : (d : Datum) (l : of.TermValue-F TermValue Term) → value_order (roll-TermValue (of.Val d)) (roll-TermValue l) ≡ datum_against d l
datum_order_is d l = ap (λ (f : ValueOrder). f (roll-TermValue l)) (order_of_datum d) ∙ ap (datum_against d) (out-roll-TermValue l)

term_order_is : (t : Term) (l : of.TermValue-F TermValue Term) → value_order (roll-TermValue (of.Term t)) (roll-TermValue l) ≡ term_against (term_order t) l
term_order_is t l = ap (λ (f : ValueOrder). f (roll-TermValue l)) (order_of_term t) ∙ ap (term_against (term_order t)) (out-roll-TermValue l)

tied_data : (d e : Datum) → datum_order d e ≡ Equal → d ≡ e
tied_data d e h = (same_decides d e).0 (ties_where_same d e ∙ ap is_eq h)

tied_layers : (k l : of.TermValue-F TermValue Term) → value_order (roll-TermValue k) (roll-TermValue l) ≡ Equal → roll-TermValue k ≡ roll-TermValue l
tied_layers (of.Val d) (of.Val e) h = ap (λ x. roll-TermValue (of.Val x)) (tied_data d e (sym (datum_order_is d (of.Val e)) ∙ h))
tied_layers (of.Val d) (of.Term t) h = let wrong : Less ≡ Equal = sym (datum_order_is d (of.Term t)) ∙ h in absurd (cc)
tied_layers (of.Term t) (of.Val e) h = let wrong : Greater ≡ Equal = sym (term_order_is t (of.Val e)) ∙ h in absurd (cc)
tied_layers (of.Term t) (of.Term u) h = ap (λ x. roll-TermValue (of.Term x)) (tied_is t u (sym (term_order_is t (of.Term u)) ∙ h))

pub tied_values : (x y : TermValue) → value_order x y ≡ Equal → x ≡ y
tied_values x y h =
    sym (roll-out-TermValue x)
    ∙ tied_layers (out-TermValue x) (out-TermValue y) (ap (λ z. value_order z (roll-TermValue (out-TermValue y))) (roll-out-TermValue x) ∙ ap (value_order x) (roll-out-TermValue y) ∙ h)
    ∙ roll-out-TermValue y

-- ---- what comes before one that comes before a third comes before that

abbrev ValueBelow : TermValue → Type 0
ValueBelow x = (y z : TermValue) → value_order x y ≡ Less → value_order y z ≡ Less → value_order x z ≡ Less

abbrev TermBelow : Term → Type 0
TermBelow t = (u v : Term) → term_order t u ≡ Less → term_order u v ≡ Less → term_order t v ≡ Less

abbrev LowValue : Type 0
LowValue = (x : TermValue) × ValueBelow x

abbrev LowTerm : Type 0
LowTerm = (t : Term) × TermBelow t

keys_below : (xs : List LowValue) (ys zs : List TermValue) → keys_against (map value_order (map (λ x. x.0) xs)) ys ≡ Less → keys_against (map value_order ys) zs ≡ Less
    → keys_against (map value_order (map (λ x. x.0) xs)) zs ≡ Less
keys_below [] [] zs h k = absurd (cc)
keys_below [] (y ∷ ys) [] h k = absurd (cc)
keys_below [] (y ∷ ys) (z ∷ zs) h k = refl
keys_below (x ∷ xs) [] zs h k = absurd (cc)
keys_below (x ∷ xs) (y ∷ ys) [] h k = absurd (cc)
keys_below (x ∷ xs) (y ∷ ys) (z ∷ zs) h k =
    then_below value_order tied_values x.0 y z (keys_against (map value_order (map (λ w. w.0) xs)) ys) (keys_against (map value_order ys) zs) (keys_against (map value_order (map (λ w. w.0) xs)) zs)
    (x.1 y z) h k (keys_below xs ys zs)

-- how a term stands to another one, by what they are
opened : (t u : Term) → term_order t u ≡ terms_against (record { class = (out-Term t).class; keys = map value_order (out-Term t).keys }) u
opened t u = ap (λ x. term_order x u) (sym (roll-out-Term t)) ∙ ap (λ (f : TermOrder). f u) (order_is (out-Term t).class (out-Term t).keys)

term_below : (x : of.Term-F LowValue LowTerm) → TermBelow (roll-Term (map-Term LowValue LowTerm TermValue Term (λ w. w.0) (λ w. w.0) x))
term_below x u v h k =
    let keys : List TermValue = map (λ w. w.0) x.keys in
    let against = λ (w : Term). ap (λ (f : TermOrder). f w) (order_is x.class keys) in
    against v
    ∙ then_below nat_cmp nat_cmp-IsAntisymmetric x.class.0 (out-Term u).class.0 (out-Term v).class.0
    (keys_against (map value_order keys) (out-Term u).keys) (keys_against (map value_order (out-Term u).keys) (out-Term v).keys) (keys_against (map value_order keys) (out-Term v).keys)
    (nat_cmp_total.trans x.class.0 (out-Term u).class.0 (out-Term v).class.0) (sym (against u) ∙ h) (sym (opened u v) ∙ k)
    (keys_below x.keys (out-Term u).keys (out-Term v).keys)

datum_below : (d : Datum) (l m : of.TermValue-F TermValue Term) → value_order (roll-TermValue (of.Val d)) (roll-TermValue l) ≡ Less → value_order (roll-TermValue l) (roll-TermValue m) ≡ Less
    → value_order (roll-TermValue (of.Val d)) (roll-TermValue m) ≡ Less
datum_below d (of.Val e) (of.Val f) h k =
    datum_order_is d (of.Val f) ∙ order_total.trans d e f (sym (datum_order_is d (of.Val e)) ∙ h) (sym (datum_order_is e (of.Val f)) ∙ k)
datum_below d l (of.Term t) h k = datum_order_is d (of.Term t)
datum_below d (of.Term t) (of.Val f) h k = let wrong : Greater ≡ Less = sym (term_order_is t (of.Val f)) ∙ k in absurd (cc)

held_below : (t : Term) → TermBelow t → (l m : of.TermValue-F TermValue Term) → value_order (roll-TermValue (of.Term t)) (roll-TermValue l) ≡ Less → value_order (roll-TermValue l) (roll-TermValue m) ≡ Less
    → value_order (roll-TermValue (of.Term t)) (roll-TermValue m) ≡ Less
held_below t below (of.Val e) m h k = let wrong : Greater ≡ Less = sym (term_order_is t (of.Val e)) ∙ h in absurd (cc)
held_below t below (of.Term u) (of.Val f) h k = let wrong : Greater ≡ Less = sym (term_order_is u (of.Val f)) ∙ k in absurd (cc)
held_below t below (of.Term u) (of.Term v) h k =
    term_order_is t (of.Term v) ∙ below u v (sym (term_order_is t (of.Term u)) ∙ h) (sym (term_order_is u (of.Term v)) ∙ k)

-- between any values, by what they are
over_layers : (x : TermValue) → ((l m : of.TermValue-F TermValue Term) → value_order x (roll-TermValue l) ≡ Less → value_order (roll-TermValue l) (roll-TermValue m) ≡ Less → value_order x (roll-TermValue m) ≡ Less) → ValueBelow x
over_layers x all y z h k =
    ap (value_order x) (sym (roll-out-TermValue z))
    ∙ all (out-TermValue y) (out-TermValue z) (ap (value_order x) (roll-out-TermValue y) ∙ h) (ap (λ w. value_order w (roll-TermValue (out-TermValue z))) (roll-out-TermValue y) ∙ ap (value_order y) (roll-out-TermValue z) ∙ k)

value_below : (x : of.TermValue-F LowValue LowTerm) → ValueBelow (roll-TermValue (map-TermValue LowValue LowTerm TermValue Term (λ w. w.0) (λ w. w.0) x))
value_below (of.Val d) = over_layers (roll-TermValue (of.Val d)) (datum_below d)
value_below (of.Term t) = over_layers (roll-TermValue (of.Term t.0)) (held_below t.0 t.1)

pub terms_below : (t : Term) → TermBelow t
terms_below = ind-Term ValueBelow TermBelow
    (λ x y is. subst (λ z. ValueBelow (roll-TermValue z)) is (value_below y))
    (λ x y is. subst (λ z. TermBelow (roll-Term z)) is (term_below y))

values_below : (x : TermValue) → ValueBelow x
values_below = ind-TermValue ValueBelow TermBelow
    (λ x y is. subst (λ z. ValueBelow (roll-TermValue z)) is (value_below y))
    (λ x y is. subst (λ z. TermBelow (roll-Term z)) is (term_below y))

pub values_total : IsTotalOrder value_order
values_total = record {
  antisymm = values_turned;
  trans = values_below;
  congr = λ x y z h. ap (λ w. value_order w z) (tied_values x y h);
}

pub terms_total : IsTotalOrder term_order
terms_total = record {
  antisymm = terms_turned;
  trans = terms_below;
  congr = λ t u v h. ap (λ x. term_order x v) (tied_is t u h);
}
