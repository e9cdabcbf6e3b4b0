-- Tests of lists of numbers, and what they say: so what is said of a program that is given can be computed.
use Rattle.std.proofs.Common.{◌≡◌, ◌≢◌, ◌<◌, ◌≤◌, ◌+◌, ℕ, zero, suc, Bool, true, false, ◌&&◌, ◌||◌, not, List, [], ◌∷◌, length, get_or, map, Option, Some, refl, sym, ap, ◌∙◌, subst, arith, inl, inr, true≢false}
use Rattle.std.specs.Prelude.{◌⊎◌, nat_eq, nat_lt, slice_get, Contains, AllPairs, All}
use Rattle.std.specs.List.{list_all, list_any, range_with_len}
use Rattle.std.proofs.lemmas.Bool.{eqb-true, ltb-true, ltb-false, eq-eqb}
use Rattle.std.proofs.lemmas.Bool.Decides.{nat_tests}
use Rattle.std.proofs.lemmas.Option.{same_Some, none-some, slice_get_within}
use Rattle.std.proofs.lemmas.List.Elements.{Contains-get_or}
use Rattle.mof_metamodel.proofs.Facts.{first_true, second_true, nothing_in}

-- ---- each element

-- a test that all pass is passed by each
pub all_of : {X : Type 0} (p : X → Bool) (xs : List X) → list_all p xs ≡ true → (x : X) → Contains xs x → p x ≡ true
all_of p [] e x c = absurd (nothing_in x c)
all_of p (y ∷ ys) e x (zero, within, is) = subst (λ z. p z ≡ true) is (first_true (p y) (list_all p ys) e)
all_of p (y ∷ ys) e x (suc k, within, is) = all_of p ys (second_true (p y) (list_all p ys) e) x (k, omega (arith, within), is)

-- what holds of both parts of a list holds of each element
pub each_of : {X : Type 0} (P : X → Type 0) (x : X) (xs : List X) → P x → ((y : X) → Contains xs y → P y) → (y : X) → Contains (x ∷ xs) y → P y
each_of P x xs p h y (zero, within, is) = subst P is p
each_of P x xs p h y (suc k, within, is) = h y (k, omega (arith, within), is)

pub each_of_none : {X : Type 0} (P : X → Type 0) (y : X) → Contains [] y → P y
each_of_none P y c = absurd (nothing_in y c)

-- what is among images is the image of an element
pub image_of : {X Y : Type 0} (f : X → Y) (xs : List X) (y : Y) → Contains (map f xs) y → (x : X) × Contains xs x × (f x ≡ y)
image_of f [] y c = absurd (nothing_in y c)
image_of f (x ∷ xs) y (zero, within, is) = (x, (0, omega arith, refl), is)
image_of f (x ∷ xs) y (suc k, within, is) =
    let more = image_of f xs y (k, omega (arith, within), is) in
    (more.0, (suc more.1.0, (let below = more.1.1 in omega (arith, below)), more.1.2), more.2)

-- and so is what stands at a place of them
pub image_at : {X Y : Type 0} (f : X → Y) (xs : List X) (i : ℕ) (y : Y) → slice_get (map f xs) i ≡ Some y → (x : X) × (slice_get xs i ≡ Some x) × (f x ≡ y)
image_at f [] i y e = absurd (none-some y e)
image_at f (x ∷ xs) zero y e = (x, refl, same_Some (f x) y e)
image_at f (x ∷ xs) (suc i) y e = image_at f xs i y e

pub at_image : {X Y : Type 0} (f : X → Y) (xs : List X) (i : ℕ) (x : X) → slice_get xs i ≡ Some x → slice_get (map f xs) i ≡ Some (f x)
at_image f [] i x e = absurd (none-some x e)
at_image f (y ∷ xs) zero x e = ap (λ z. Some (f z)) (same_Some y x e)
at_image f (y ∷ xs) (suc i) x e = at_image f xs i x e

-- ---- numbers in a list

abbrev pub has : List ℕ → ℕ → Bool
has xs n = list_any (λ x. nat_eq x n) xs

in_by : (x n : ℕ) (xs : List ℕ) (b : Bool) → nat_eq x n ≡ b → (b || has xs n) ≡ true → (has xs n ≡ true → Contains xs n) → Contains (x ∷ xs) n
in_by x n xs true is e more = (0, omega arith, eqb-true x n is)
in_by x n xs false is e more = let found = more e in (suc found.0, (let below = found.1 in omega (arith, below)), found.2)

pub in_list : (xs : List ℕ) (n : ℕ) → has xs n ≡ true → Contains xs n
in_list [] n e = absurd (true≢false (sym e))
in_list (x ∷ xs) n e = in_by x n xs (nat_eq x n) refl e (λ h. in_list xs n h)

pub listed : (xs : List ℕ) (n : ℕ) → Contains xs n → has xs n ≡ true
listed [] n c = absurd (nothing_in n c)
listed (x ∷ xs) n (zero, within, is) = ap (λ b. b || has xs n) (eq-eqb x n is)
listed (x ∷ xs) n (suc k, within, is) = or_true (nat_eq x n) (has xs n) (listed xs n (k, omega (arith, within), is))
  where
    or_true : (a b : Bool) → b ≡ true → (a || b) ≡ true
    or_true true b e = refl
    or_true false b e = e

pub not_listed : (xs : List ℕ) (n : ℕ) → has xs n ≡ false → ¬ Contains xs n
not_listed xs n e c = true≢false (sym (listed xs n c) ∙ e)

-- ---- pairs

pub all_pairs_cons : {X : Type 0} (R : X → X → Type 0) (x : X) (xs : List X) → ((y : X) → Contains xs y → R x y) → AllPairs R xs → AllPairs R (x ∷ xs)
all_pairs_cons R x xs h rest zero zero d before within = absurd (omega (arith, before))
all_pairs_cons R x xs h rest zero (suc j) d before within = h (get_or xs j d) (Contains-get_or xs j d (omega (arith, within)))
all_pairs_cons R x xs h rest (suc i) zero d before within = absurd (omega (arith, before))
all_pairs_cons R x xs h rest (suc i) (suc j) d before within = rest i j d (omega (arith, before)) (omega (arith, within))

abbrev pub increasing : List ℕ → Bool
increasing [] = true
increasing (x ∷ xs) = list_all (nat_lt x) xs && increasing xs

pub in_order : (xs : List ℕ) → increasing xs ≡ true → AllPairs (λ v w. v < w) xs
in_order [] e = λ i j d before within. absurd (omega (arith, within))
in_order (x ∷ xs) e =
    all_pairs_cons (λ v w. v < w) x xs (λ y c. ltb-true x y (all_of (nat_lt x) xs (first_true (list_all (nat_lt x) xs) (increasing xs) e) y c))
    (in_order xs (second_true (list_all (nat_lt x) xs) (increasing xs) e))

abbrev pub distinct : List ℕ → Bool
distinct [] = true
distinct (x ∷ xs) = not (has xs x) && distinct xs

pub not_true : (b : Bool) → not b ≡ true → b ≡ false
not_true true e = absurd (true≢false (sym e))
not_true false e = refl

pub all_apart : (xs : List ℕ) → distinct xs ≡ true → AllPairs (λ v w. v ≢ w) xs
all_apart [] e = λ i j d before within. absurd (omega (arith, within))
all_apart (x ∷ xs) e =
    all_pairs_cons (λ v w. v ≢ w) x xs
    (λ y c same. not_listed xs x (not_true (has xs x) (first_true (not (has xs x)) (distinct xs) e)) (subst (λ z. Contains xs z) (sym same) c))
    (all_apart xs (second_true (not (has xs x)) (distinct xs) e))

-- ---- numbers below one

next_in_range : (a n k : ℕ) (b : Bool) → nat_eq a k ≡ b → a ≤ k → k < a + suc n → (a + 1 ≤ k → k < (a + 1) + n → Contains (range_with_len (a + 1) n) k) → Contains (range_with_len a (suc n)) k
next_in_range a n k true is from less more = (0, omega arith, eqb-true a k is)
next_in_range a n k false is from less more =
    let apart : a ≢ k = λ same. true≢false (sym (eq-eqb a k same) ∙ is) in
    let found = more (omega (arith, from, apart)) (omega (arith, less)) in
    (suc found.0, (let below = found.1 in omega (arith, below)), found.2)

in_range : (a n k : ℕ) → a ≤ k → k < a + n → Contains (range_with_len a n) k
in_range a zero k from less = absurd (omega (arith, from, less))
in_range a (suc n) k from less = next_in_range a n k (nat_eq a k) refl from less (λ f l. in_range (a + 1) n k f l)

-- a test that all numbers below n pass is passed by each
pub below_of : (p : ℕ → Bool) (n : ℕ) → list_all p (range_with_len 0 n) ≡ true → (k : ℕ) → k < n → p k ≡ true
below_of p n e k less = all_of p (range_with_len 0 n) e k (in_range 0 n k (omega arith) (omega (arith, less)))

-- ---- numbers of models

abbrev some_number : ℕ → Option ℕ
some_number n = Some n

pub zero_not_one : some_number 0 ≢ some_number 1
zero_not_one e = let n : 0 ≡ 1 = same_Some 0 1 e in absurd (omega (arith, n))
