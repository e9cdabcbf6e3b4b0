-- A list in value order is determined by its elements, so that a sort gives what `in_order` says; and a list in value order without
-- its repeats is `in_order` of its distinct elements.
use Rattle.std.proofs.Common.{◌≡◌, ℕ, suc, ◌+◌, Bool, true, false, cond, List, [], ◌∷◌, refl, sym, ◌∙◌, ap, arith, subst, true≢false}
use Rattle.std.specs.Prelude.{⊤}
use Rattle.std.specs.List.{AllByRecursion, sum_by}
use Rattle.std.specs.List.Sorted.{IsPermutation, IsSortedBy}
use Rattle.std.specs.Cmp.{IsStrictWeakOrder}
use Rattle.std.specs.Ordering.{is_lt, is_eq, ordering_reverse}
use Rattle.std.specs.declared.cmp.Ordering.{Ordering}
use Rattle.std.specs.declared.cmp.Ordering.TheVariants.{Less, Equal, Greater}
use Rattle.std.proofs.lemmas.List.Sums.{sum_by-cons}
use Rattle.std.proofs.lemmas.List.Sorted.{ranks_by, sum_by-IsPermutation}
use Rattle.qvtr_semantics.specs.declared.datum.Datum.{Datum}
use Rattle.qvtr_semantics.specs.Data.{is_before, placed, in_order}
use Rattle.ocl_eval.specs.Order.{datum_order}
use Rattle.ocl_eval.specs.OrderLaws.{before_by_order, order_total, ties_where_same, same_decides}

pub weak : IsStrictWeakOrder is_before
weak = subst IsStrictWeakOrder (λ i x y. before_by_order x y i) (ranks_by order_total (λ x. x))

-- neither stands before the other: they are one
pub one_of : (x y : Datum) → is_before x y ≡ false → is_before y x ≡ false → x ≡ y
one_of x y h k = go (datum_order x y) refl
  where
    go : (o : Ordering) → datum_order x y ≡ o → x ≡ y
    go Less e = absurd (true≢false (sym (ap is_lt e) ∙ before_by_order x y ∙ h))
    go Equal e = (same_decides x y).0 (ties_where_same x y ∙ ap is_eq e)
    go Greater e = absurd (true≢false (sym (ap is_lt (order_total.antisymm y x ∙ ap ordering_reverse e)) ∙ before_by_order y x ∙ k))

pub not_itself : (x : Datum) → is_before x x ≡ false
not_itself x = go (is_before x x) refl
  where
    go : (b : Bool) → is_before x x ≡ b → is_before x x ≡ false
    go true e = weak.one_way x x e
    go false e = e

-- ---- lists that don't fall

abbrev pub IsRising : List Datum → Type 0
IsRising [] = ⊤
IsRising (x ∷ xs) = AllByRecursion (λ z. is_before z x ≡ false) xs × IsRising xs

lower : (x y : Datum) → is_before y x ≡ false → (zs : List Datum) → AllByRecursion (λ z. is_before z y ≡ false) zs → AllByRecursion (λ z. is_before z x ≡ false) zs
lower x y h [] a = tt
lower x y h (z ∷ zs) a = (weak.chain z y x a.0 h, lower x y h zs a.1)

above_first : (x : Datum) (ys : List Datum) → IsSortedBy is_before (x ∷ ys) → IsRising ys → AllByRecursion (λ z. is_before z x ≡ false) ys
above_first x [] sorted up = tt
above_first x (y ∷ ys) sorted up = let first : is_before y x ≡ false = sorted 0 x (omega arith) (omega arith) in (first, lower x y first ys up.0)

rising_from_sorted : (xs : List Datum) → IsSortedBy is_before xs → IsRising xs
rising_from_sorted [] sorted = tt
rising_from_sorted (x ∷ xs) sorted =
    let tail : IsSortedBy is_before xs = λ k d p q. rw Rattle.std.proofs.Common.add-one (rw Rattle.std.proofs.Common.add-one at (sorted (suc k) d (omega arith) (omega arith))) in
    let up = rising_from_sorted xs tail in
    (above_first x xs sorted up, up)

-- how often an element that stands before y is met
abbrev before_count : Datum → Datum → ℕ
before_count y z = cond (is_before z y) 1 0

none_before : (y : Datum) (ys : List Datum) → AllByRecursion (λ z. is_before z y ≡ false) ys → sum_by (before_count y) ys ≡ 0
none_before y [] a = refl
none_before y (z ∷ zs) a = let here : before_count y z ≡ 0 = ap (λ b. cond b 1 0) a.0 in omega (arith, sum_by-cons (before_count y) z zs, here, none_before y zs a.1)

counts_none : (y x : Datum) (n : ℕ) → before_count y x + n ≡ 0 → is_before x y ≡ false
counts_none y x n h = go (is_before x y) refl
  where
    go : (b : Bool) → is_before x y ≡ b → is_before x y ≡ false
    go true e = let here : before_count y x ≡ 1 = ap (λ b. cond b 1 0) e in absurd (omega (arith, here, h))
    go false e = e

head_not_before : (x : Datum) (xs : List Datum) (y : Datum) (ys : List Datum) → IsRising (y ∷ ys) → ((f : Datum → ℕ) → sum_by f (x ∷ xs) ≡ sum_by f (y ∷ ys)) → is_before x y ≡ false
head_not_before x xs y ys up same =
    counts_none y x (sum_by (before_count y) xs) (sym (sum_by-cons (before_count y) x xs) ∙ same (before_count y) ∙ none_before y (y ∷ ys) (not_itself y, up.0))

same_tails : (x : Datum) (xs : List Datum) (y : Datum) (ys : List Datum) → x ≡ y → (f : Datum → ℕ) → sum_by f (x ∷ xs) ≡ sum_by f (y ∷ ys) → sum_by f xs ≡ sum_by f ys
same_tails x xs y ys e f h = omega (arith, ap f e, sum_by-cons f x xs, sum_by-cons f y ys, h)

pub same_list : (xs ys : List Datum) → IsRising xs → IsRising ys → ((f : Datum → ℕ) → sum_by f xs ≡ sum_by f ys) → xs ≡ ys
same_list [] [] up on same = refl
same_list [] (y ∷ ys) up on same = absurd (omega (arith, same (λ z. 1), sum_by-cons (λ z. 1) y ys))
same_list (x ∷ xs) [] up on same = absurd (omega (arith, same (λ z. 1), sum_by-cons (λ z. 1) x xs))
same_list (x ∷ xs) (y ∷ ys) up on same =
    let heads : x ≡ y = one_of x y (head_not_before x xs y ys on same) (head_not_before y ys x xs up (λ f. sym (same f))) in
    let tails : xs ≡ ys = same_list xs ys up.1 on.1 (λ f. same_tails x xs y ys heads f (same f)) in
    λ i. heads i ∷ tails i

-- ---- `placed` and `in_order`

pub all-placed : (P : Datum → Type 0) (d : Datum) (xs : List Datum) → P d → AllByRecursion P xs → AllByRecursion P (placed d xs)
all-placed P d [] h a = (h, tt)
all-placed P d (e ∷ es) h a = elim (is_before e d) as (λ b. AllByRecursion P (cond b (e ∷ placed d es) (d ∷ e ∷ es))) [ true ↦ (a.0, all-placed P d es h a.1) | false ↦ (h, a) ]

rising-placed : (d : Datum) (xs : List Datum) → IsRising xs → IsRising (placed d xs)
rising-placed d [] up = (tt, tt)
rising-placed d (e ∷ es) up = go (is_before e d) refl (rising-placed d es up.1)
  where
    go : (b : Bool) → is_before e d ≡ b → IsRising (placed d es) → IsRising (cond b (e ∷ placed d es) (d ∷ e ∷ es))
    go true h more = (all-placed (λ z. is_before z e ≡ false) d es (weak.one_way e d h) up.0, more)
    go false h more = ((h, lower d e h es up.0), up)

pub rising-in_order : (xs : List Datum) → IsRising (in_order xs)
rising-in_order [] = tt
rising-in_order (x ∷ xs) = rising-placed x (in_order xs) (rising-in_order xs)

sum-placed : (f : Datum → ℕ) (d : Datum) (xs : List Datum) → sum_by f (placed d xs) ≡ f d + sum_by f xs
sum-placed f d [] = sum_by-cons f d []
sum-placed f d (e ∷ es) = go (is_before e d) (sum-placed f d es)
  where
    go : (b : Bool) → sum_by f (placed d es) ≡ f d + sum_by f es → sum_by f (cond b (e ∷ placed d es) (d ∷ e ∷ es)) ≡ f d + sum_by f (e ∷ es)
    go true more = omega (arith, sum_by-cons f e (placed d es), more, sum_by-cons f e es)
    go false more = sum_by-cons f d (e ∷ es)

pub sum-in_order : (f : Datum → ℕ) (xs : List Datum) → sum_by f (in_order xs) ≡ sum_by f xs
sum-in_order f [] = refl
sum-in_order f (x ∷ xs) = sum-placed f x (in_order xs) ∙ ap (λ n. f x + n) (sum-in_order f xs) ∙ sym (sum_by-cons f x xs)

-- what a sort gives
pub sorted_is_in_order : (xs ys : List Datum) → IsPermutation xs ys → IsSortedBy is_before ys → ys ≡ in_order xs
sorted_is_in_order xs ys moved sorted =
    same_list ys (in_order xs) (rising_from_sorted ys sorted) (rising-in_order xs) (λ f. sum_by-IsPermutation f xs ys moved ∙ sym (sum-in_order f xs))
