-- The order of terms is total, so that a list of terms in order has each once.
use Rattle.std.specs.Prelude.{◌≡◌, ◌⊎◌, ℕ, zero, suc, Bool, true, false, cond, List, [], ◌∷◌, map, Some, slice_get, Contains}
use Rattle.std.specs.List.{filter}
use Rattle.std.specs.Cmp.{nat_cmp_total, Equal-is}
use Rattle.std.specs.FinMap.{nat_cmp-IsAntisymmetric}
use Rattle.std.specs.Ordering.{nat_cmp, ordering_then, ordering_reverse, match_ordering, is_eq}
use Rattle.std.specs.declared.cmp.Ordering.{Ordering}
use Rattle.std.specs.declared.cmp.Ordering.TheVariants.{Less, Equal, Greater}
use Rattle.std.proofs.Common.{refl, ap, sym, ◌∙◌, subst, arith, inl, inr}
use Rattle.std.proofs.lemmas.Option.{none-some, same_Some}
use Rattle.qvtr_semantics.specs.declared.datum.Datum.{Datum}
use Rattle.ocl_eval.specs.Order.{datum_order}
use Rattle.ocl_eval.specs.OrderLaws.{order_total, ties_where_same, same_decides}
use Rattle.template_match.proofs.ListLaws.{contains_later}
use Rattle.mof_metamodel.proofs.Facts.{contains_first}
use Rattle.repair_semantics.specs.declared.term.Term.{Term, roll-Term, out-Term, out-roll-Term, roll-out-Term, map-Term, ind-Term}
use Rattle.repair_semantics.specs.declared.term.TermValue.{TermValue, roll-TermValue, out-TermValue, out-roll-TermValue, roll-out-TermValue, map-TermValue}
use Rattle.repair_semantics.specs.declared.term.TermValue.TheOpen as of
use Rattle.repair_semantics.specs.Terms.{ValueOrder, TermOrder, keys_against, datum_against, term_against, term_order, value_order, placed_by, each_once}
use Rattle.repair_semantics.proofs.TermLaws.{order_is, order_of_datum, order_of_term}
use Rattle.repair_semantics.proofs.TieLaws.{ties_are_one}
use Rattle.mof_metamodel.proofs.Facts.{contains_at}
use Rattle.mof_metamodel.proofs.Facts.{nothing_in}
use Rattle.repair_laws.proofs.ManagedLaws.{from_filter}

equal_less : Equal ≡ Less → ⊥
equal_less h = cc

greater_less : Greater ≡ Less → ⊥
greater_less h = cc

-- ---- comparisons in turn

reverse_then : (o q : Ordering) → ordering_then (ordering_reverse o) (ordering_reverse q) ≡ ordering_reverse (ordering_then o q)
reverse_then Less q = refl
reverse_then Equal q = refl
reverse_then Greater q = refl

then_less : (a b c p q r : Ordering) → (a ≡ Less → b ≡ Less → c ≡ Less) → (a ≡ Equal → c ≡ b) → (b ≡ Equal → c ≡ a) → (p ≡ Less → q ≡ Less → r ≡ Less)
    → ordering_then a p ≡ Less → ordering_then b q ≡ Less → ordering_then c r ≡ Less
then_less Less Less c p q r both first second rest h k = ap (λ o. ordering_then o r) (both refl refl)
then_less Less Equal c p q r both first second rest h k = ap (λ o. ordering_then o r) (second refl)
then_less Less Greater c p q r both first second rest h k = absurd (greater_less k)
then_less Equal Less c p q r both first second rest h k = ap (λ o. ordering_then o r) (first refl)
then_less Equal Equal c p q r both first second rest h k = ap (λ o. ordering_then o r) (first refl) ∙ rest h k
then_less Equal Greater c p q r both first second rest h k = absurd (greater_less k)
then_less Greater b c p q r both first second rest h k = absurd (greater_less h)

-- ---- terms and values, opened

term_compared : (t u : Term) → term_order t u ≡ ordering_then (nat_cmp (out-Term t).class.0 (out-Term u).class.0) (keys_against (map value_order (out-Term t).keys) (out-Term u).keys)
term_compared t u = ap (λ x. term_order x u) (sym (roll-out-Term t)) ∙ ap (λ (f : TermOrder). f u) (order_is (out-Term t).class (out-Term t).keys)

abbrev compared : of.TermValue-F TermValue Term → of.TermValue-F TermValue Term → Ordering
compared (of.Val d) (of.Val e) = datum_order d e
compared (of.Val d) (of.Term u) = Less
compared (of.Term t) (of.Val e) = Greater
compared (of.Term t) (of.Term u) = term_order t u

value_compared : (x y : TermValue) → value_order x y ≡ compared (out-TermValue x) (out-TermValue y)
value_compared x y = ap (λ z. value_order z y) (sym (roll-out-TermValue x)) ∙ by (out-TermValue x)
  where
    datum : (d : Datum) (z : of.TermValue-F TermValue Term) → datum_against d z ≡ compared (of.Val d) z
    datum d (of.Val e) = refl
    datum d (of.Term u) = refl

    term : (t : Term) (z : of.TermValue-F TermValue Term) → term_against (term_order t) z ≡ compared (of.Term t) z
    term t (of.Val e) = refl
    term t (of.Term u) = refl

    by : (z : of.TermValue-F TermValue Term) → value_order (roll-TermValue z) y ≡ compared z (out-TermValue y)
    by (of.Val d) = ap (λ (f : ValueOrder). f y) (order_of_datum d) ∙ datum d (out-TermValue y)
    by (of.Term t) = ap (λ (f : ValueOrder). f y) (order_of_term t) ∙ term t (out-TermValue y)

-- what ties is one
value_ties : (x y : TermValue) → value_order x y ≡ Equal → x ≡ y
value_ties x y h = sym (roll-out-TermValue x) ∙ by (out-TermValue x) (out-TermValue y) (sym (value_compared x y) ∙ h) ∙ roll-out-TermValue y
  where
    by : (a b : of.TermValue-F TermValue Term) → compared a b ≡ Equal → roll-TermValue a ≡ roll-TermValue b
    by (of.Val d) (of.Val e) g = ap (λ z. roll-TermValue (of.Val z)) ((same_decides d e).0 (ties_where_same d e ∙ ap is_eq g))
    by (of.Val d) (of.Term u) g = absurd (cc)
    by (of.Term t) (of.Val e) g = absurd (cc)
    by (of.Term t) (of.Term u) g = ap (λ z. roll-TermValue (of.Term z)) ((ties_are_one t u).0 (ap is_eq g))

-- ---- the order is total

abbrev ValueTotal : TermValue → Type 0
ValueTotal x = (y : TermValue) → (value_order x y ≡ ordering_reverse (value_order y x)) × ((z : TermValue) → value_order x y ≡ Less → value_order y z ≡ Less → value_order x z ≡ Less)

abbrev TermTotal : Term → Type 0
TermTotal t = (u : Term) → (term_order t u ≡ ordering_reverse (term_order u t)) × ((w : Term) → term_order t u ≡ Less → term_order u w ≡ Less → term_order t w ≡ Less)

abbrev V : Type 0
V = (x : TermValue) × ValueTotal x

abbrev T : Type 0
T = (t : Term) × TermTotal t

keys_reverse : (zs : List V) (ws : List TermValue) → keys_against (map value_order (map (λ z. z.0) zs)) ws ≡ ordering_reverse (keys_against (map value_order ws) (map (λ z. z.0) zs))
keys_reverse [] [] = refl
keys_reverse [] (w ∷ ws) = refl
keys_reverse (z ∷ zs) [] = refl
keys_reverse (z ∷ zs) (w ∷ ws) =
    ap (λ o. ordering_then o (keys_against (map value_order (map (λ y. y.0) zs)) ws)) (z.1 w).0
    ∙ ap (ordering_then (ordering_reverse (value_order w z.0))) (keys_reverse zs ws)
    ∙ reverse_then (value_order w z.0) (keys_against (map value_order ws) (map (λ y. y.0) zs))

keys_less : (zs : List V) (ws vs : List TermValue) → keys_against (map value_order (map (λ z. z.0) zs)) ws ≡ Less → keys_against (map value_order ws) vs ≡ Less
    → keys_against (map value_order (map (λ z. z.0) zs)) vs ≡ Less
keys_less [] [] vs h k = absurd (equal_less h)
keys_less [] (w ∷ ws) [] h k = absurd (greater_less k)
keys_less [] (w ∷ ws) (v ∷ vs) h k = refl
keys_less (z ∷ zs) [] vs h k = absurd (greater_less h)
keys_less (z ∷ zs) (w ∷ ws) [] h k = absurd (greater_less k)
keys_less (z ∷ zs) (w ∷ ws) (v ∷ vs) h k =
    then_less (value_order z.0 w) (value_order w v) (value_order z.0 v)
    (keys_against (map value_order (map (λ y. y.0) zs)) ws) (keys_against (map value_order ws) vs) (keys_against (map value_order (map (λ y. y.0) zs)) vs)
    ((z.1 w).1 v) (λ e. ap (λ y. value_order y v) (value_ties z.0 w e)) (λ e. ap (value_order z.0) (sym (value_ties w v e))) (keys_less zs ws vs) h k

term_layer : (z : of.Term-F V T) → TermTotal (roll-Term (map-Term V T TermValue Term (λ x. x.0) (λ x. x.0) z))
term_layer z u = (turned, less)
  where
    opened : (w : Term) → term_order (roll-Term (map-Term V T TermValue Term (λ x. x.0) (λ x. x.0) z)) w ≡ ordering_then (nat_cmp z.class.0 (out-Term w).class.0) (keys_against (map value_order (map (λ x. x.0) z.keys)) (out-Term w).keys)
    opened w = ap (λ (f : TermOrder). f w) (order_is z.class (map (λ x. x.0) z.keys))

    behind : term_order u (roll-Term (map-Term V T TermValue Term (λ x. x.0) (λ x. x.0) z)) ≡ ordering_then (nat_cmp (out-Term u).class.0 z.class.0) (keys_against (map value_order (out-Term u).keys) (map (λ x. x.0) z.keys))
    behind =
        term_compared u (roll-Term (map-Term V T TermValue Term (λ x. x.0) (λ x. x.0) z))
        ∙ ap (λ (y : of.Term-F TermValue Term). ordering_then (nat_cmp (out-Term u).class.0 y.class.0) (keys_against (map value_order (out-Term u).keys) y.keys))
        (out-roll-Term (map-Term V T TermValue Term (λ x. x.0) (λ x. x.0) z))

    turned : term_order (roll-Term (map-Term V T TermValue Term (λ x. x.0) (λ x. x.0) z)) u ≡ ordering_reverse (term_order u (roll-Term (map-Term V T TermValue Term (λ x. x.0) (λ x. x.0) z)))
    turned =
        opened u
        ∙ ap (λ o. ordering_then o (keys_against (map value_order (map (λ x. x.0) z.keys)) (out-Term u).keys)) (nat_cmp_total.antisymm z.class.0 (out-Term u).class.0)
        ∙ ap (ordering_then (ordering_reverse (nat_cmp (out-Term u).class.0 z.class.0))) (keys_reverse z.keys (out-Term u).keys)
        ∙ reverse_then (nat_cmp (out-Term u).class.0 z.class.0) (keys_against (map value_order (out-Term u).keys) (map (λ x. x.0) z.keys))
        ∙ ap ordering_reverse (sym behind)

    less : (w : Term) → term_order (roll-Term (map-Term V T TermValue Term (λ x. x.0) (λ x. x.0) z)) u ≡ Less → term_order u w ≡ Less → term_order (roll-Term (map-Term V T TermValue Term (λ x. x.0) (λ x. x.0) z)) w ≡ Less
    less w h k =
        let c : ℕ = (out-Term u).class.0 in
        let d : ℕ = (out-Term w).class.0 in
        opened w
        ∙ then_less (nat_cmp z.class.0 c) (nat_cmp c d) (nat_cmp z.class.0 d)
        (keys_against (map value_order (map (λ x. x.0) z.keys)) (out-Term u).keys) (keys_against (map value_order (out-Term u).keys) (out-Term w).keys) (keys_against (map value_order (map (λ x. x.0) z.keys)) (out-Term w).keys)
        (nat_cmp_total.trans z.class.0 c d) (nat_cmp_total.congr z.class.0 c d)
        (λ e. ap (nat_cmp z.class.0) (sym (nat_cmp-IsAntisymmetric c d e))) (keys_less z.keys (out-Term u).keys (out-Term w).keys)
        (sym (opened u) ∙ h) (sym (term_compared u w) ∙ k)

value_layer : (z : of.TermValue-F V T) → ValueTotal (roll-TermValue (map-TermValue V T TermValue Term (λ x. x.0) (λ x. x.0) z))
value_layer z y = by z (out-TermValue y) refl
  where
    opened : (d : of.TermValue-F TermValue Term) (w : TermValue) → value_order (roll-TermValue d) w ≡ compared d (out-TermValue w)
    opened d w = value_compared (roll-TermValue d) w ∙ ap (λ a. compared a (out-TermValue w)) (out-roll-TermValue d)

    behind : (d : of.TermValue-F TermValue Term) → value_order y (roll-TermValue d) ≡ compared (out-TermValue y) d
    behind d = value_compared y (roll-TermValue d) ∙ ap (compared (out-TermValue y)) (out-roll-TermValue d)

    reversed : (x : of.TermValue-F V T) (b : of.TermValue-F TermValue Term)
        → compared (map-TermValue V T TermValue Term (λ q. q.0) (λ q. q.0) x) b ≡ ordering_reverse (compared b (map-TermValue V T TermValue Term (λ q. q.0) (λ q. q.0) x))
    reversed (of.Val d) (of.Val e) = order_total.antisymm d e
    reversed (of.Val d) (of.Term u) = refl
    reversed (of.Term t) (of.Val e) = refl
    reversed (of.Term t) (of.Term u) = (t.1 u).0

    less : (x : of.TermValue-F V T) (b c : of.TermValue-F TermValue Term) → compared (map-TermValue V T TermValue Term (λ q. q.0) (λ q. q.0) x) b ≡ Less → compared b c ≡ Less
        → compared (map-TermValue V T TermValue Term (λ q. q.0) (λ q. q.0) x) c ≡ Less
    less (of.Val d) (of.Val e) (of.Val f) h k = order_total.trans d e f h k
    less (of.Val d) (of.Term u) (of.Val f) h k = absurd (greater_less k)
    less (of.Val d) b (of.Term w) h k = refl
    less (of.Term t) (of.Val e) c h k = absurd (greater_less h)
    less (of.Term t) (of.Term u) (of.Val f) h k = absurd (greater_less k)
    less (of.Term t) (of.Term u) (of.Term w) h k = (t.1 u).1 w h k

    by : (x : of.TermValue-F V T) (b : of.TermValue-F TermValue Term) → out-TermValue y ≡ b
        → (value_order (roll-TermValue (map-TermValue V T TermValue Term (λ q. q.0) (λ q. q.0) x)) y ≡ ordering_reverse (value_order y (roll-TermValue (map-TermValue V T TermValue Term (λ q. q.0) (λ q. q.0) x))))
        × ((w : TermValue) → value_order (roll-TermValue (map-TermValue V T TermValue Term (λ q. q.0) (λ q. q.0) x)) y ≡ Less → value_order y w ≡ Less
        → value_order (roll-TermValue (map-TermValue V T TermValue Term (λ q. q.0) (λ q. q.0) x)) w ≡ Less)
    by x b is =
        let d : of.TermValue-F TermValue Term = map-TermValue V T TermValue Term (λ q. q.0) (λ q. q.0) x in (
          opened d y ∙ reversed x (out-TermValue y) ∙ ap ordering_reverse (sym (behind d)),
          λ w h k. opened d w ∙ less x (out-TermValue y) (out-TermValue w) (sym (opened d y) ∙ h) (sym (value_compared y w) ∙ k),
        )

pub terms_total : (t : Term) → TermTotal t
terms_total = ind-Term ValueTotal TermTotal
    (λ x y is. subst (λ z. ValueTotal (roll-TermValue z)) is (value_layer y))
    (λ x y is. subst (λ z. TermTotal (roll-Term z)) is (term_layer y))

-- ---- lists in order

-- each term comes before all behind it
pub data IsAscending : List Term → Type 0 where
  none : IsAscending []
  more : (t : Term) (ts : List Term) → ((u : Term) → Contains ts u → term_order t u ≡ Less) → IsAscending ts → IsAscending (t ∷ ts)

placed_from : (x z : Term) (ys : List Term) → Contains (placed_by term_order x ys) z → (x ≡ z) ⊎ Contains ys z
placed_from x z [] (zero, below, is) = inl is
placed_from x z [] (suc k, below, is) = absurd (omega (arith, below))
placed_from x z (y ∷ ys) c = by (placed_from x z ys) (term_order x y) c
  where
    before : Contains (x ∷ y ∷ ys) z → (x ≡ z) ⊎ Contains (y ∷ ys) z
    before (zero, below, is) = inl is
    before (suc k, below, is) = inr (k, omega (arith, below), is)

    after : (x ≡ z) ⊎ Contains ys z → (x ≡ z) ⊎ Contains (y ∷ ys) z
    after (inl same) = inl same
    after (inr there) = inr (contains_later z y ys there)

    behind : (Contains (placed_by term_order x ys) z → (x ≡ z) ⊎ Contains ys z) → Contains (y ∷ placed_by term_order x ys) z → (x ≡ z) ⊎ Contains (y ∷ ys) z
    behind rest (zero, below, is) = inr (subst (Contains (y ∷ ys)) is (contains_first y ys))
    behind rest (suc k, below, is) = after (rest (k, omega (arith, below), is))

    by : (Contains (placed_by term_order x ys) z → (x ≡ z) ⊎ Contains ys z) → (o : Ordering) → Contains (match_ordering o (x ∷ y ∷ ys) (y ∷ ys) (y ∷ placed_by term_order x ys)) z
        → (x ≡ z) ⊎ Contains (y ∷ ys) z
    by rest Less d = before d
    by rest Equal d = inr d
    by rest Greater d = behind rest d

pub once_from : (xs : List Term) (z : Term) → Contains (each_once term_order xs) z → Contains xs z
once_from [] z c = c
once_from (x ∷ xs) z c = by (once_from xs z) (placed_from x z (each_once term_order xs) c)
  where
    by : (Contains (each_once term_order xs) z → Contains xs z) → (x ≡ z) ⊎ Contains (each_once term_order xs) z → Contains (x ∷ xs) z
    by rest (inl same) = subst (Contains (x ∷ xs)) same (contains_first x xs)
    by rest (inr there) = contains_later z x xs (rest there)

placed_ascending : (x : Term) (ys : List Term) → IsAscending ys → IsAscending (placed_by term_order x ys)
placed_ascending x _ IsAscending.none = IsAscending.more x [] (λ u c. absurd (nothing_in u c)) IsAscending.none
placed_ascending x _ (IsAscending.more y ys all rest) = by (placed_ascending x ys rest) (term_order x y) refl
  where
    above : term_order x y ≡ Less → (u : Term) → Contains (y ∷ ys) u → term_order x u ≡ Less
    above less u (zero, below, is) = ap (term_order x) (sym is) ∙ less
    above less u (suc k, below, is) = (terms_total x y).1 u less (all u (k, omega (arith, below), is))

    under : term_order x y ≡ Greater → (u : Term) → (x ≡ u) ⊎ Contains ys u → term_order y u ≡ Less
    under greater u (inl same) = ap (term_order y) (sym same) ∙ (terms_total y x).0 ∙ ap ordering_reverse greater
    under greater u (inr there) = all u there

    by : IsAscending (placed_by term_order x ys) → (o : Ordering) → term_order x y ≡ o → IsAscending (match_ordering o (x ∷ y ∷ ys) (y ∷ ys) (y ∷ placed_by term_order x ys))
    by later Less is = IsAscending.more x (y ∷ ys) (above is) (IsAscending.more y ys all rest)
    by later Equal is = IsAscending.more y ys all rest
    by later Greater is = IsAscending.more y (placed_by term_order x ys) (λ u c. under is u (placed_from x u ys c)) later

pub once_ascending : (xs : List Term) → IsAscending (each_once term_order xs)
once_ascending [] = IsAscending.none
once_ascending (x ∷ xs) = placed_ascending x (each_once term_order xs) (once_ascending xs)

pub filtered_ascending : (test : Term → Bool) (ts : List Term) → IsAscending ts → IsAscending (filter test ts)
filtered_ascending test _ IsAscending.none = IsAscending.none
filtered_ascending test _ (IsAscending.more t ts all rest) = by (filtered_ascending test ts rest) (test t)
  where
    by : IsAscending (filter test ts) → (b : Bool) → IsAscending (cond b (t ∷ filter test ts) (filter test ts))
    by later false = later
    by later true = IsAscending.more t (filter test ts) (λ u c. all u (from_filter test ts u c).0) later

not_less : (t : Term) → term_order t t ≡ Less → ⊥
not_less t h = equal_less (sym ((Equal-is (term_order t t)).0 ((ties_are_one t t).1 refl)) ∙ h)

behind_first : (t u : Term) (ts : List Term) (k : ℕ) → slice_get ts k ≡ Some u → ((w : Term) → Contains ts w → term_order t w ≡ Less) → t ≡ u → ⊥
behind_first t u ts k at all same = not_less t (ap (term_order t) same ∙ all u (contains_at ts k u at))

-- so two places of one term are one
pub one_place : (ts : List Term) (i j : ℕ) (t : Term) → IsAscending ts → slice_get ts i ≡ Some t → slice_get ts j ≡ Some t → i ≡ j
one_place _ i j t IsAscending.none h k = absurd (none-some t h)
one_place _ zero zero t (IsAscending.more u ts all rest) h k = refl
one_place _ zero (suc j) t (IsAscending.more u ts all rest) h k = absurd (behind_first u t ts j k all (same_Some u t h))
one_place _ (suc i) zero t (IsAscending.more u ts all rest) h k = absurd (behind_first u t ts i h all (same_Some u t k))
one_place _ (suc i) (suc j) t (IsAscending.more u ts all rest) h k = ap suc (one_place ts i j t rest h k)
