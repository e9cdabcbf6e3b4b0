-- Runs of numbers, lists made of them, and a change in the middle of a list.
use Rattle.std.proofs.Common.{◌≡◌, ◌+◌, ℕ, zero, suc, List, [], ◌∷◌, ◌++◌, length, refl, ap, ◌∙◌, arith}
use Rattle.std.specs.Prelude.{sum_by}
use Rattle.std.specs.List.{flat_map, range_with_len}
use Rattle.std.proofs.lemmas.List.{append-nil}
use Rattle.std.proofs.lemmas.List.Concat.{flat_map-append}
use Rattle.std.proofs.lemmas.List.Sums.{sum_by-cons}
use Rattle.object_tables.specs.Lists.{update_at}

range_suc : (a n j : ℕ) → a + n ≡ j → range_with_len a (suc n) ≡ range_with_len a n ++ j ∷ []
range_suc a zero j e = let same : a ≡ j = omega (arith, e) in ap (λ (x : ℕ). x ∷ []) same
range_suc a (suc n) j e = let next : a + 1 + n ≡ j = omega (arith, e) in ap (λ (xs : List ℕ). a ∷ xs) (range_suc (a + 1) n j next)

-- one number more
pub range_more : (a n j : ℕ) → a + n ≡ j → range_with_len a (n + 1) ≡ range_with_len a n ++ j ∷ []
range_more a n j e = let one : n + 1 ≡ suc n = omega arith in ap (range_with_len a) one ∙ range_suc a n j e

-- the lists of one number more
pub flat_map_range_more : {X : Type 0} (f : ℕ → List X) (a n j : ℕ) → a + n ≡ j → flat_map f (range_with_len a (n + 1)) ≡ flat_map f (range_with_len a n) ++ f j
flat_map_range_more f a n j e =
    ap (flat_map f) (range_more a n j e) ∙ flat_map-append f (range_with_len a n) (j ∷ []) ∙ ap (λ ys. flat_map f (range_with_len a n) ++ ys) (append-nil (f j))

-- a sum over one run of numbers and the next one
pub sum_joined : (f : ℕ → ℕ) (a n m : ℕ) → sum_by f (range_with_len a (n + m)) ≡ sum_by f (range_with_len a n) + sum_by f (range_with_len (a + n) m)
sum_joined f a zero m =
    let count : zero + m ≡ m = omega arith in
    let from : a ≡ a + zero = omega arith in
    let left : sum_by f (range_with_len a (zero + m)) ≡ sum_by f (range_with_len a m) = ap (λ k. sum_by f (range_with_len a k)) count in
    let right : sum_by f (range_with_len a m) ≡ sum_by f (range_with_len (a + zero) m) = ap (λ k. sum_by f (range_with_len k m)) from in
    omega (arith, left, right)
sum_joined f a (suc n) m =
    let first = sum_by-cons f a (range_with_len (a + 1) (n + m)) in
    let second = sum_by-cons f a (range_with_len (a + 1) n) in
    let rest = sum_joined f (a + 1) n m in
    let from : a + 1 + n ≡ a + suc n = omega arith in
    let there : sum_by f (range_with_len (a + 1 + n) m) ≡ sum_by f (range_with_len (a + suc n) m) = ap (λ k. sum_by f (range_with_len k m)) from in
    let count : suc n + m ≡ suc (n + m) = omega arith in
    let all : sum_by f (range_with_len a (suc n + m)) ≡ sum_by f (range_with_len a (suc (n + m))) = ap (λ k. sum_by f (range_with_len a k)) count in
    omega (arith, all, first, second, rest, there)

pub sum_range_more : (f : ℕ → ℕ) (n : ℕ) → sum_by f (range_with_len 0 (n + 1)) ≡ sum_by f (range_with_len 0 n) + f n
sum_range_more f n =
    let joined = sum_joined f 0 n 1 in
    let one = sum_by-cons f (0 + n) [] in
    let from : 0 + n ≡ n = omega arith in
    let there : f (0 + n) ≡ f n = ap f from in
    omega (arith, joined, one, there)

-- a change in the middle
pub update_middle : {X : Type 0} (us : List X) (x : X) (vs : List X) (f : X → X) → update_at (us ++ x ∷ vs) (length us) f ≡ us ++ f x ∷ vs
update_middle [] x vs f = refl
update_middle (u ∷ us) x vs f = ap (λ ys. u ∷ ys) (update_middle us x vs f)
