-- Lists of numbers by what is in them.
use Rattle.std.proofs.Common.{◌≡◌, ◌≢◌, ℕ, ◌<◌, ◌≤◌, zero, suc, Bool, true, false, cond, List, [], ◌∷◌, length, refl, sym, ◌∙◌, subst, arith}
use Rattle.std.specs.Prelude.{◌==◌, not, Contains, AllPairs, IsPermutation}
use Rattle.std.specs.List.{remove}
use Rattle.std.proofs.lemmas.Bool.{eq-eqb}
use Rattle.std.proofs.lemmas.List.Sorted.{IsPermutation-refl, IsPermutation-remove, IsPermutation-cons, IsPermutation-trans, IsPermutation-sym}
use Rattle.std.proofs.lemmas.List.Sorted.{Contains-permutation}
use Rattle.mof_metamodel.proofs.Facts.{nothing_in, contains_first}
use Rattle.link_arena.proofs.Orders.{AllPairs-permutation}
use Rattle.object_tables.specs.Models.{without_number}
use Rattle.object_tables.proofs.ListLemmas.{Contains-cons}

-- what is in a list is its first number, or in the rest
first_or_later : (x : ℕ) (xs : List ℕ) (y : ℕ) → y ≢ x → Contains (x ∷ xs) y → Contains xs y
first_or_later x xs y other (zero, l, e) = absurd (other (sym e))
first_or_later x xs y other (suc k, l, e) = (k, omega (arith, l), e)

-- the first number stands there once
first_alone : (x : ℕ) (xs : List ℕ) → AllPairs (λ x y. x ≢ y) (x ∷ xs) → Contains xs x → ⊥
first_alone x xs apart (k, l, e) = apart 0 (suc k) x (omega (arith, l)) (omega arith) (sym e)

rest_apart : (x : ℕ) (xs : List ℕ) → AllPairs (λ x y. x ≢ y) (x ∷ xs) → AllPairs (λ x y. x ≢ y) xs
rest_apart x xs apart i j d l k = apart (suc i) (suc j) d (omega (arith, l)) (omega (arith, k))

-- lists without repeats that have the same members are one in another order
pub same_members : (xs ys : List ℕ) → AllPairs (λ x y. x ≢ y) xs → AllPairs (λ x y. x ≢ y) ys → ((z : ℕ) → Contains xs z → Contains ys z)
    → ((z : ℕ) → Contains ys z → Contains xs z)
    → IsPermutation xs ys
same_members [] [] d e there back = IsPermutation-refl []
same_members [] (y ∷ ys) d e there back = absurd (nothing_in y (back y (contains_first y ys)))
same_members (x ∷ xs) ys d e there back =
    let (k, l, is) = there x (contains_first x xs) in
    let rest : List ℕ = remove ys k in
    let moved : IsPermutation ys (x ∷ rest) = IsPermutation-remove ys k x l (sym is) in
    let apart = AllPairs-permutation ys (x ∷ rest) moved e in
    IsPermutation-trans (x ∷ xs) (x ∷ rest) ys
    (IsPermutation-cons x xs rest
    (same_members xs rest (rest_apart x xs d) (rest_apart x rest apart)
    (λ z c. first_or_later x rest z (λ same. first_alone x xs d (subst (Contains xs) same c))
    (Contains-permutation ys (x ∷ rest) z moved (there z (Contains-cons x xs z c))))
    (λ z c. first_or_later x xs z (λ same. first_alone x rest apart (subst (Contains rest) same c))
    (back z (Contains-permutation (x ∷ rest) ys z (IsPermutation-sym ys (x ∷ rest) moved) (Contains-cons x rest z c))))))
    (IsPermutation-sym ys (x ∷ rest) moved)

-- nothing is in a list only where it is empty
pub empty_from : (xs : List ℕ) → ((x : ℕ) → Contains xs x → ⊥) → xs ≡ []
empty_from [] none = refl
empty_from (x ∷ xs) none = absurd (none x (contains_first x xs))

-- ---- without a number

pub length-without_number : (b : ℕ) (xs : List ℕ) → length (without_number b xs) ≤ length xs
length-without_number b [] = omega arith
length-without_number b (x ∷ xs) = by (x == b) (length-without_number b xs)
  where
    by : (t : Bool) → length (without_number b xs) ≤ length xs
        → length (cond (not t) (x ∷ without_number b xs) (without_number b xs)) ≤ suc (length xs)
    by true h = omega arith
    by false h = omega arith

pub length-without_member : (b : ℕ) (xs : List ℕ) → Contains xs b → length (without_number b xs) < length xs
length-without_member b [] c = absurd (nothing_in b c)
length-without_member b (x ∷ xs) c =
    by (x == b) refl (length-without_number b xs) (λ other. length-without_member b xs (first_or_later x xs b other c))
  where
    by : (t : Bool) → (x == b) ≡ t → length (without_number b xs) ≤ length xs → (b ≢ x → length (without_number b xs) < length xs)
        → length (cond (not t) (x ∷ without_number b xs) (without_number b xs)) < suc (length xs)
    by true e no_more fewer = omega (arith, no_more)
    by false e no_more fewer =
        let other : b ≢ x = (λ same. let w : (x == b) ≡ true = eq-eqb x b (sym same) in let z : true ≡ false = sym w ∙ e in cc) in
        let less : length (without_number b xs) < length xs = fewer other in omega (arith, less)
