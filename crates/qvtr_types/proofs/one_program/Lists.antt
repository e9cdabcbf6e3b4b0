-- Lists with the same items are one: ascending numbers by what is among them, others place by place.
use Rattle.std.proofs.Common.{◌≡◌, ◌<◌, ℕ, suc, List, [], ◌∷◌, refl, sym, arith, length, get_or, ⊎_elim}
use Rattle.std.specs.Prelude.{Some, Contains, AllPairs, slice_get}
use Rattle.ocl_types.proofs.ConformanceLaws.{in_either, later_in}
use Rattle.mof_metamodel.proofs.Facts.{nothing_in}

-- ---- place by place

pub by_place : {A : Type 0} (xs ys : List A) → length xs ≡ length ys → ((i : ℕ) (x y : A) → slice_get xs i ≡ Some x → slice_get ys i ≡ Some y → x ≡ y) → xs ≡ ys
by_place [] [] count each = refl
by_place [] (y ∷ ys) count each = absurd (omega (arith, count))
by_place (x ∷ xs) [] count each = absurd (omega (arith, count))
by_place {A} (x ∷ xs) (y ∷ ys) count each =
    let first : x ≡ y = each 0 x y refl refl in
    let rest : xs ≡ ys = by_place xs ys (omega (arith, count)) (λ i v w one other. each (suc i) v w one other) in
    λ i. first i ∷ rest i

-- ---- ascending numbers

abbrev AreAscending : List ℕ → Type 0
AreAscending numbers = AllPairs (λ v w. v < w) numbers

above_first : (x : ℕ) (xs : List ℕ) (n : ℕ) → AreAscending (x ∷ xs) → Contains xs n → x < n
above_first x xs n up (k, l, at) = let above : x < get_or xs k n = up 0 (suc k) n (omega arith) (omega arith) in omega (arith, above, at)

ascending_rest : (x : ℕ) (xs : List ℕ) → AreAscending (x ∷ xs) → AreAscending xs
ascending_rest x xs up i j d before within = up (suc i) (suc j) d (omega arith) (omega arith)

same_first : (x y : ℕ) (xs ys : List ℕ) → AreAscending (x ∷ xs) → AreAscending (y ∷ ys) → Contains (y ∷ ys) x → Contains (x ∷ xs) y → x ≡ y
same_first x y xs ys up other there here =
    ⊎_elim (λ same. sym same)
    (λ later. ⊎_elim (λ same. same) (λ behind. let one = above_first y ys x other later in let two = above_first x xs y up behind in absurd (omega (arith, one, two))) (in_either x y xs here))
    (in_either y x ys there)

-- what stands behind the first number of one stands behind that of the other
behind_first : (x y : ℕ) (xs ys : List ℕ) (n : ℕ) → AreAscending (x ∷ xs) → x ≡ y → Contains xs n → Contains (y ∷ ys) n → Contains ys n
behind_first x y xs ys n up same here there =
    let above = above_first x xs n up here in
    ⊎_elim (λ first. absurd (omega (arith, above, first, same))) (λ later. later) (in_either y n ys there)

pub one_ascending : (xs ys : List ℕ) → AllPairs (λ v w. v < w) xs → AllPairs (λ v w. v < w) ys → ((n : ℕ) → Contains xs n → Contains ys n) → ((n : ℕ) → Contains ys n → Contains xs n) → xs ≡ ys
one_ascending [] [] up other to from = refl
one_ascending [] (y ∷ ys) up other to from = absurd (nothing_in y (from y (0, omega arith, refl)))
one_ascending (x ∷ xs) [] up other to from = absurd (nothing_in x (to x (0, omega arith, refl)))
one_ascending (x ∷ xs) (y ∷ ys) up other to from =
    let first : x ≡ y = same_first x y xs ys up other (to x (0, omega arith, refl)) (from y (0, omega arith, refl)) in
    let rest : xs ≡ ys = one_ascending xs ys (ascending_rest x xs up) (ascending_rest y ys other)
    (λ n c. behind_first x y xs ys n up first c (to n (later_in x n xs c)))
    (λ n c. behind_first y x ys xs n other (sym first) c (from n (later_in y n ys c))) in
    λ i. first i ∷ rest i
