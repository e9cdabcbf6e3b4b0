-- The order of bindings is total; sorted bindings without ties are in the order of the values of the variables that are sought.
use Rattle.std.specs.Prelude.{◌≡◌, ℕ, zero, suc, Bool, true, List, [], ◌∷◌, map, Some, Contains, AllPairs}
use Rattle.std.specs.List.{AllByRecursion, dedup}
use Rattle.std.specs.List.Sorted.{IsPermutation, IsSorted, IsStrictlySortedBy}
use Rattle.std.specs.Cmp.{IsTotalOrder}
use Rattle.std.specs.Ordering.{ordering_then, eq_by_cmp, is_lt, is_eq}
use Rattle.std.specs.declared.cmp.Ordering.{Ordering}
use Rattle.std.specs.declared.cmp.Ordering.TheVariants.{Less, Equal, Greater}
use Rattle.std.proofs.Common.{refl, sym, ap, subst, ◌∙◌, arith, inl, inr}
use Rattle.std.proofs.lemmas.Cmp.{on_total, then_total, eq_by_cmp_equiv}
use Rattle.std.proofs.lemmas.List.Kept.{AllPairs-cons, IsStrictlySortedBy-dedup, Any-dedup, Contains-from_dedup}
use Rattle.std.proofs.lemmas.List.Sorted.{Contains-permutation, IsPermutation-sym}
use Rattle.std.proofs.lemmas.List.Elements.{All-from_recursion}
use Rattle.qvtr_semantics.specs.declared.datum.Datum.{Datum}
use Rattle.qvtr_semantics.specs.declared.binding.Binding.{Binding}
use Rattle.qvtr_semantics.specs.Templates.{Values, value_at}
use Rattle.qvtr_semantics.specs.Satisfaction.{comes_before, IsLess}
use Rattle.template_match.proofs.ListLaws.{contains_later}
use Rattle.mof_metamodel.proofs.Facts.{contains_first}
use Rattle.ocl_eval.specs.Order.{datum_order}
use Rattle.ocl_eval.specs.OrderLaws.{before_by_order, ties_where_same, same_decides}
use Rattle.template_match.specs.Order.{optional_order, values_order, binding_order}
use Rattle.template_match.specs.OrderLaws.{optional_total, optional_exact}
use Rattle.template_match.specs.Each.{IsEachOnce}

less_equal : Equal ≡ Less → ⊥
less_equal h = cc

greater_less : Greater ≡ Less → ⊥
greater_less h = cc

pub values_total : (vars : List ℕ) → IsTotalOrder (values_order vars)
values_total [] = record { antisymm = λ a b. refl; trans = λ a b c h k. h; congr = λ a b c h. refl }
values_total (v ∷ vs) = then_total (on_total (λ (b : Values). value_at b v) optional_total) (values_total vs)

pub binding_total : (vars : List ℕ) → IsTotalOrder (binding_order vars)
binding_total vars = on_total (λ (b : Binding). b.values) (values_total vars)

-- each of the variables has a value
abbrev pub AreBound : List ℕ → Values → Type 0
AreBound vars b = (v : ℕ) → Contains vars v → (d : Datum) × (value_at b v ≡ Some d)

less_first : (v : ℕ) (vs : List ℕ) (a b : Values) (d e : Datum) (o : Ordering) → value_at a v ≡ Some d → value_at b v ≡ Some e → datum_order d e ≡ o
    → ordering_then o (values_order vs a b) ≡ Less → (values_order vs a b ≡ Less → IsLess vs a b) → IsLess (v ∷ vs) a b
less_first v vs a b d e Less at bt is h more =
    inl (ap (λ x. comes_before x (value_at b v)) at ∙ ap (comes_before (Some d)) bt ∙ sym (before_by_order d e) ∙ ap is_lt is)
less_first v vs a b d e Equal at bt is h more =
    let same : d ≡ e = (same_decides d e).0 (ties_where_same d e ∙ ap is_eq is) in
    inr (at ∙ ap (λ x. Some x) same ∙ sym bt, more h)
less_first v vs a b d e Greater at bt is h more = absurd (greater_less h)

pub less_is : (vars : List ℕ) (a b : Values) → AreBound vars a → AreBound vars b → values_order vars a b ≡ Less → IsLess vars a b
less_is [] a b p q h = absurd (less_equal h)
less_is (v ∷ vs) a b p q h =
    let x = p v (contains_first v vs) in
    let y = q v (contains_first v vs) in
    less_first v vs a b x.0 y.0 (datum_order x.0 y.0) x.1 y.1 refl
    (ap (λ o. ordering_then o (values_order vs a b)) (sym (ap (λ k. optional_order k (value_at b v)) x.1 ∙ ap (optional_order (Some x.0)) y.1)) ∙ h)
    (less_is vs a b (λ w c. p w (contains_later w v vs c)) (λ w c. q w (contains_later w v vs c)))

then_equal : (o q : Ordering) → ordering_then o q ≡ Equal → (o ≡ Equal) × (q ≡ Equal)
then_equal Equal q h = (refl, h)
then_equal Less q h = absurd (cc)
then_equal Greater q h = absurd (cc)

-- bindings that tie have the same values of the variables
pub ties_are : (vars : List ℕ) (a b : Values) → values_order vars a b ≡ Equal → (v : ℕ) → Contains vars v → value_at a v ≡ value_at b v
ties_are [] a b h v (k, within, is) = absurd (omega (arith, within))
ties_are (w ∷ vs) a b h v (zero, within, is) =
    subst (λ x. value_at a x ≡ value_at b x) is (optional_exact (value_at a w) (value_at b w) (then_equal (optional_order (value_at a w) (value_at b w)) (values_order vs a b) h).0)
ties_are (w ∷ vs) a b h v (suc k, within, is) =
    ties_are vs a b (then_equal (optional_order (value_at a w) (value_at b w)) (values_order vs a b) h).1 v (k, omega (arith, within), is)

-- ---- sorted, each once

equal_from : {X : Type 0} (order : X → X → Ordering) (x y : X) → eq_by_cmp order x y ≡ true → order x y ≡ Equal
equal_from order x y h = by (order x y) refl h
  where
    by : (o : Ordering) → order x y ≡ o → is_eq o ≡ true → order x y ≡ Equal
    by Less e h = absurd (cc)
    by Equal e h = e
    by Greater e h = absurd (cc)

pub each_once : {X : Type 0} (order : X → X → Ordering) → IsTotalOrder order → (xs sorted ys : List X) → IsPermutation xs sorted → IsSorted order sorted
    → ys ≡ dedup (λ x y. eq_by_cmp order x y) sorted → IsEachOnce order xs ys
each_once {X} order total xs sorted ys moved up is =
    let same : X → X → Bool = λ x y. eq_by_cmp order x y in
    record {
      sorted = subst (IsStrictlySortedBy order) (sym is) (IsStrictlySortedBy-dedup total (λ x y. refl) sorted up);
      only = λ y c. Contains-permutation sorted xs y (IsPermutation-sym xs sorted moved) (Contains-from_dedup same sorted y (subst (λ zs. Contains zs y) is c));
      all = λ x c.
          let found = Any-dedup (eq_by_cmp_equiv total) sorted x (Contains-permutation xs sorted x moved c) in
          (found.1, subst (λ zs. Contains zs found.1) (sym is) (found.0, found.2, found.3), equal_from order x found.1 found.4);
    }

-- ---- the values of bindings

abbrev pub Bound : List ℕ → Binding → Type 0
Bound vars b = AreBound vars b.values

pub in_pairs : (vars : List ℕ) (bs : List Binding) → IsStrictlySortedBy (binding_order vars) bs → ((b : Binding) → Contains bs b → Bound vars b)
    → AllPairs (IsLess vars) (map (λ b. b.values) bs)
unfolding IsStrictlySortedBy
in_pairs vars [] up bound = λ i j d before within. absurd (omega (arith, within))
in_pairs vars (b ∷ bs) up bound =
    AllPairs-cons (IsLess vars) b.values (map (λ b. b.values) bs)
    (All-from_recursion (IsLess vars b.values) (map (λ b. b.values) bs) (first bs (λ c within. bound c (contains_later c b bs within)) up.0))
    (in_pairs vars bs up.1 (λ c within. bound c (contains_later c b bs within)))
  where
    first : (cs : List Binding) → ((c : Binding) → Contains cs c → Bound vars c) → AllByRecursion (λ c. binding_order vars b c ≡ Less) cs
        → AllByRecursion (IsLess vars b.values) (map (λ b. b.values) cs)
    first [] others a = tt
    first (c ∷ cs) others a = (
      less_is vars b.values c.values (bound b (contains_first b bs)) (others c (contains_first c cs)) a.0,
      first cs (λ x within. others x (contains_later x c cs within)) a.1,
    )
