-- Two lists without repeats and with the same numbers are one in another order; the objects that are named at a reference are the partners there.
use Rattle.std.proofs.Common.{◌≡◌, ◌≢◌, ℕ, Bool, true, false, cond, List, [], ◌∷◌, ◌++◌, get_or, refl, sym, ◌∙◌, ap, inl, inr, true≢false}
use Rattle.std.specs.Prelude.{◌||◌, nat_eq, IsPermutation, AllPairs}
use Rattle.std.specs.List.{list_any, remove, IsDistinct, AllByRecursion}
use Rattle.std.proofs.lemmas.Bool.{or_left, or_from, eqb-true, eq-eqb, ne_eqb, cases_eq}
use Rattle.std.proofs.lemmas.Cmp.{nat_eq_equiv}
use Rattle.std.proofs.lemmas.List.Sorted.{IsPermutation-refl, IsPermutation-remove, IsPermutation-cons, IsPermutation-trans, IsPermutation-sym, list_any-IsPermutation}
use Rattle.std.proofs.lemmas.Map.Keys.{IsDistinct-head, IsDistinct-tail, IsDistinct-push, IsDistinct-from_apart, IsDistinct-IsPermutation}
use Rattle.mof_metamodel.specs.Metamodels.{united, with_item}
use Rattle.model_assembly.proofs.assembling.ListLaws.{any_contains}

absent : (x : ℕ) (xs : List ℕ) → AllByRecursion (λ y. nat_eq x y ≡ false) xs → list_any (nat_eq x) xs ≡ false
absent x [] h = refl
absent x (y ∷ ys) h = or_from (nat_eq x y) (list_any (nat_eq x) ys) h.0 (absent x ys h.1)

eq_flips : (x y : ℕ) → nat_eq x y ≡ nat_eq y x
eq_flips = nat_eq_equiv.symm

-- what is left of two lists when one number is taken out of both
rest_alike : (x : ℕ) (xs zs : List ℕ) → list_any (nat_eq x) xs ≡ false → list_any (nat_eq x) zs ≡ false → ((q : ℕ) → (nat_eq q x || list_any (nat_eq q) xs) ≡ (nat_eq q x || list_any (nat_eq q) zs))
    → (q : ℕ) → list_any (nat_eq q) xs ≡ list_any (nat_eq q) zs
rest_alike x xs zs a b h q = elim (cases_eq q x) [
  | inl e ↦ ap (λ z. list_any (nat_eq z) xs) e ∙ a ∙ sym (ap (λ z. list_any (nat_eq z) zs) e ∙ b)
  | inr ne ↦ (
      let n = ne_eqb q x ne in
      sym (ap (λ t. t || list_any (nat_eq q) xs) n) ∙ h q ∙ ap (λ t. t || list_any (nat_eq q) zs) n)
]

pub same_members : (xs ys : List ℕ) → IsDistinct nat_eq xs → IsDistinct nat_eq ys → ((q : ℕ) → list_any (nat_eq q) xs ≡ list_any (nat_eq q) ys) → IsPermutation xs ys
same_members [] [] d e h = IsPermutation-refl []
same_members [] (y ∷ ys) d e h = absurd (true≢false (sym (or_left (nat_eq y y) (list_any (nat_eq y) ys) (eq-eqb y y refl)) ∙ sym (h y)))
same_members (x ∷ xs) ys d e h =
    let found = any_contains (nat_eq x) ys (sym (h x) ∙ or_left (nat_eq x x) (list_any (nat_eq x) xs) (eq-eqb x x refl)) in
    let k = found.1.0 in
    let here : x ≡ get_or ys k x = eqb-true x found.0 found.2 ∙ sym found.1.2 ∙ Rattle.std.proofs.lemmas.List.get_or_default ys k found.0 x found.1.1 in
    let moved : IsPermutation ys (x ∷ remove ys k) = IsPermutation-remove ys k x found.1.1 here in
    let apart = IsDistinct-IsPermutation nat_eq eq_flips ys (x ∷ remove ys k) moved e in
    let alike = rest_alike x xs (remove ys k) (absent x xs (IsDistinct-head nat_eq x xs d)) (absent x (remove ys k) (IsDistinct-head nat_eq x (remove ys k) apart))
    (λ q. h q ∙ list_any-IsPermutation (nat_eq q) ys (x ∷ remove ys k) moved) in
    IsPermutation-trans (x ∷ xs) (x ∷ remove ys k) ys
    (IsPermutation-cons x xs (remove ys k) (same_members xs (remove ys k) (IsDistinct-tail nat_eq x xs d) (IsDistinct-tail nat_eq x (remove ys k) apart) alike))
    (IsPermutation-sym ys (x ∷ remove ys k) moved)

-- a list without repeats stays so
pub united_distinct : (xs ys : List ℕ) → IsDistinct nat_eq xs → IsDistinct nat_eq (united xs ys)
united_distinct xs [] d = d
united_distinct xs (y ∷ ys) d = united_distinct (with_item xs y) ys (by (list_any (nat_eq y) xs) refl)
  where
    by : (b : Bool) → list_any (nat_eq y) xs ≡ b → IsDistinct nat_eq (cond b xs (xs ++ y ∷ []))
    by true e = d
    by false e = IsDistinct-push nat_eq_equiv xs y d e

-- partners are distinct
pub distinct_apart : (xs : List ℕ) → AllPairs (λ x y. x ≢ y) xs → IsDistinct nat_eq xs
distinct_apart xs h = IsDistinct-from_apart nat_eq xs (λ i j d l k. ne_eqb (get_or xs i d) (get_or xs j d) (h i j d l k))
