-- Each list has a stable order by a key: by insertion.
use Rattle.std.proofs.Common.{◌≡◌, ◌⊎◌, ℕ, zero, suc, ◌+◌, ◌<◌, ◌≤◌, ◌==◌, Bool, true, false, cond, nat_lt, List, [], ◌∷◌, get_or, filter, Contains, IsPermutation, nat_cmp, is_lt, refl, sym, ◌∙◌, ap, subst, arith, inl, inr, if◌then◌else◌}
use Rattle.std.specs.List.Sorted.{IsSortedByKey, IsStableByKey, ties}
use Rattle.std.proofs.lemmas.Bool.{ltb-true, ltb-false, le-ltb, eqb-true}
use Rattle.std.proofs.lemmas.List.Sorted.{IsPermutation-refl, IsPermutation-trans, IsPermutation-cons, IsPermutation-insert}
use Rattle.model_assembly.proofs.assembling.ListLaws.{in_cons, contains_tail}
use Rattle.mof_metamodel.proofs.Facts.{nothing_in}
use Rattle.mof_metamodel.proofs.Facts.{contains_first}
use Rattle.model_assembly.proofs.assembling.EntryLaws.{less_is, tie_is}

-- a stable order of the list
pub record IsSortOf {X : Type 0} (key : X → ℕ) (xs ys : List X) : Type 0 where
  pub same : IsPermutation xs ys
  pub rises : IsSortedByKey key nat_cmp ys
  pub stable : IsStableByKey key nat_cmp xs ys

module _ {X : Type 0} (key : X → ℕ) where
  -- x before the first that isn't less
  abbrev inserted : X → List X → List X
  inserted x [] = x ∷ []
  inserted x (y ∷ ys) = if nat_lt (key y) (key x) then y ∷ inserted x ys else x ∷ y ∷ ys

  abbrev pub sorted : List X → List X
  sorted [] = []
  sorted (x ∷ xs) = inserted x (sorted xs)

  -- ---- the same items

  insert_same : (x : X) (ys : List X) → IsPermutation (x ∷ ys) (inserted x ys)
  insert_same x [] = IsPermutation-refl (x ∷ [])
  insert_same x (y ∷ ys) = by (nat_lt (key y) (key x)) (insert_same x ys)
    where
      by : (b : Bool) → IsPermutation (x ∷ ys) (inserted x ys) → IsPermutation (x ∷ y ∷ ys) (cond b (y ∷ inserted x ys) (x ∷ y ∷ ys))
      by false h = IsPermutation-refl (x ∷ y ∷ ys)
      by true h =
          IsPermutation-trans (x ∷ y ∷ ys) (y ∷ x ∷ ys) (y ∷ inserted x ys) (IsPermutation-insert (y ∷ ys) 1 x) (IsPermutation-cons y (x ∷ ys) (inserted x ys) h)

  all_same : (xs : List X) → IsPermutation xs (sorted xs)
  all_same [] = IsPermutation-refl []
  all_same (x ∷ xs) = IsPermutation-trans (x ∷ xs) (x ∷ sorted xs) (inserted x (sorted xs)) (IsPermutation-cons x xs (sorted xs) (all_same xs)) (insert_same x (sorted xs))

  -- ---- in order

  abbrev Ascends : List X → Type 0
  Ascends [] = Unit {0}
  Ascends (x ∷ xs) = ((y : X) → Contains xs y → key x ≤ key y) × Ascends xs

  in_inserted : (x z : X) (ys : List X) → Contains (inserted x ys) z → (x ≡ z) ⊎ Contains ys z
  in_inserted x z [] c = by (in_cons x [] z c)
    where
      by : (x ≡ z) ⊎ Contains [] z → (x ≡ z) ⊎ Contains [] z
      by (inl e) = inl e
      by (inr d) = absurd (nothing_in z d)
  in_inserted x z (y ∷ ys) c = by (nat_lt (key y) (key x)) (in_inserted x z ys) c
    where
      later : (x ≡ z) ⊎ Contains ys z → (x ≡ z) ⊎ Contains (y ∷ ys) z
      later (inl e) = inl e
      later (inr d) = inr (contains_tail y z ys d)

      first : (y ≡ z) ⊎ Contains (inserted x ys) z → (Contains (inserted x ys) z → (x ≡ z) ⊎ Contains ys z) → (x ≡ z) ⊎ Contains (y ∷ ys) z
      first (inl e) f = inr (subst (Contains (y ∷ ys)) e (contains_first y ys))
      first (inr d) f = later (f d)

      by : (b : Bool) → (Contains (inserted x ys) z → (x ≡ z) ⊎ Contains ys z) → Contains (cond b (y ∷ inserted x ys) (x ∷ y ∷ ys)) z → (x ≡ z) ⊎ Contains (y ∷ ys) z
      by true f d = first (in_cons y (inserted x ys) z d) f
      by false f d = in_cons x (y ∷ ys) z d

  insert_ascends : (x : X) (ys : List X) → Ascends ys → Ascends (inserted x ys)
  insert_ascends x [] h = ((λ y c. absurd (nothing_in y c)), tt)
  insert_ascends x (y ∷ ys) h = by (nat_lt (key y) (key x)) refl (insert_ascends x ys h.1)
    where
      from_first : key y < key x → (z : X) → (x ≡ z) ⊎ Contains ys z → key y ≤ key z
      from_first l z (inl e) = let same = ap key e in omega (arith, l, same)
      from_first l z (inr d) = h.0 z d

      behind : key x ≤ key y → (z : X) → (y ≡ z) ⊎ Contains ys z → key x ≤ key z
      behind l z (inl e) = let same = ap key e in omega (arith, l, same)
      behind l z (inr d) = let more = h.0 z d in omega (arith, l, more)

      by : (b : Bool) → nat_lt (key y) (key x) ≡ b → Ascends (inserted x ys) → Ascends (cond b (y ∷ inserted x ys) (x ∷ y ∷ ys))
      by true e rest = ((λ z c. from_first (ltb-true (key y) (key x) e) z (in_inserted x z ys c)), rest)
      by false e rest = (let l = ltb-false (key y) (key x) e in ((λ z c. behind l z (in_cons y ys z c)), h))

  all_ascend : (xs : List X) → Ascends (sorted xs)
  all_ascend [] = tt
  all_ascend (x ∷ xs) = insert_ascends x (sorted xs) (all_ascend xs)

  rises_from : (xs : List X) → Ascends xs → IsSortedByKey key nat_cmp xs
  rises_from [] h k d low high = absurd (omega (arith, high))
  rises_from (x ∷ []) h k d low high = absurd (omega (arith, high))
  rises_from (x ∷ y ∷ ys) h zero d low high = less_is (key y) (key x) ∙ le-ltb (key y) (key x) (h.0 y (contains_first y ys))
  rises_from (x ∷ y ∷ ys) h (suc k) d low high =
      let next : suc k + 1 ≡ suc (k + 1) = omega arith in
      ap (λ (n : ℕ). is_lt (nat_cmp (key (get_or (x ∷ y ∷ ys) n d)) (key (get_or (x ∷ y ∷ ys) (suc k) d)))) next ∙ rises_from (y ∷ ys) h.1 k d (omega arith) (omega (arith, high))

  -- ---- stable

  insert_stable : (z x : X) (ys : List X) → filter (λ w. key w == key z) (inserted x ys) ≡ filter (λ w. key w == key z) (x ∷ ys)
  insert_stable z x [] = refl
  insert_stable z x (y ∷ ys) = by (nat_lt (key y) (key x)) refl (insert_stable z x ys)
    where
      q : X → Bool
      q w = key w == key z

      turn : (a b : Bool) → (a ≡ true → b ≡ true → ⊥) → (a ≡ true → q y ≡ true) → (b ≡ true → q x ≡ true)
          → cond a (y ∷ cond b (x ∷ filter q ys) (filter q ys)) (cond b (x ∷ filter q ys) (filter q ys)) ≡ cond b (x ∷ cond a (y ∷ filter q ys) (filter q ys)) (cond a (y ∷ filter q ys) (filter q ys))
      turn true true n f g = absurd (n refl refl)
      turn true false n f g = refl
      turn false true n f g = refl
      turn false false n f g = refl

      by : (b : Bool) → nat_lt (key y) (key x) ≡ b → filter q (inserted x ys) ≡ filter q (x ∷ ys) → filter q (cond b (y ∷ inserted x ys) (x ∷ y ∷ ys)) ≡ filter q (x ∷ y ∷ ys)
      by false e rest = refl
      by true e rest =
          ap (λ (r : List X). cond (q y) (y ∷ r) r) rest
          ∙ turn (q y) (q x)
          (λ f g. (let l = ltb-true (key y) (key x) e in let m = eqb-true (key y) (key z) f in let n = eqb-true (key x) (key z) g in omega (arith, l, m, n)))
          (λ f. f) (λ g. g)

  all_stable : (z : X) (xs : List X) → filter (λ w. key w == key z) (sorted xs) ≡ filter (λ w. key w == key z) xs
  all_stable z [] = refl
  all_stable z (x ∷ xs) = insert_stable z x (sorted xs) ∙ ap (λ (r : List X). cond (key x == key z) (x ∷ r) r) (all_stable z xs)

  tied : (z : X) (xs : List X) → filter (ties (λ x y. is_lt (nat_cmp (key x) (key y))) z) xs ≡ filter (λ w. key w == key z) xs
  tied z xs = λ i. filter (λ w. tie_is (key z) (key w) i) xs

  pub sort_of : (xs : List X) → IsSortOf key xs (sorted xs)
  sort_of xs = record {
    same = all_same xs;
    rises = rises_from (sorted xs) (all_ascend xs);
    stable = λ z. tied z (sorted xs) ∙ all_stable z xs ∙ sym (tied z xs);
  }
