-- Entries that are sorted by two keys, one after the other.
use Rattle.std.proofs.Common.{◌≡◌, ℕ, ◌≤◌, Bool, true, false, cond, List, [], ◌∷◌, refl, sym, ◌∙◌, ap, arith, inl, inr, eq-eqb}
use Rattle.std.specs.Prelude.{◌==◌, ◌&&◌, not, IsPermutation}
use Rattle.std.specs.List.{filter}
use Rattle.std.specs.List.Sorted.{IsSortedByKey, IsStableByKey}
use Rattle.std.specs.Ordering.{nat_cmp, is_lt}
use Rattle.std.proofs.lemmas.Bool.{ne_eqb, le-ltb, lt-ltb, cases_order}
use Rattle.std.proofs.lemmas.List.Sorted.{IsPermutation-trans, IsNonDecreasingBy-from_sort, ties_still_rise}
use Rattle.model_assembly.specs.declared.assembly.entry.Entry.{Entry}
use Rattle.model_assembly.specs.AssemblyEntries.{is_entry_at, no_entry, IsInOrder}

pub less_is : (a b : ℕ) → is_lt (nat_cmp a b) ≡ Rattle.std.specs.Prelude.nat_lt a b
less_is a b = by (Rattle.std.specs.Prelude.nat_lt a b) (a == b)
  where
    by : (l e : Bool) → is_lt (cond l Rattle.std.specs.declared.cmp.Ordering.TheVariants.Less (cond e Rattle.std.specs.declared.cmp.Ordering.TheVariants.Equal Rattle.std.specs.declared.cmp.Ordering.TheVariants.Greater)) ≡ l
    by true e = refl
    by false true = refl
    by false false = refl

-- two numbers tie where they are equal
pub tie_is : (a b : ℕ) → (not (is_lt (nat_cmp a b)) && not (is_lt (nat_cmp b a))) ≡ (b == a)
tie_is a b = elim (cases_order a b) [
  | inl e ↦ (
      let n : b ≤ a = omega (arith, e) in
      let m : a ≤ b = omega (arith, e) in
      (λ i. not ((less_is a b ∙ le-ltb a b n) i) && not ((less_is b a ∙ le-ltb b a m) i)) ∙ sym (eq-eqb b a (sym e)))
  | inr (inl l) ↦ (
      let ne : b ≡ a → ⊥ = λ e. absurd (omega (arith, l, e)) in
      (λ i. not ((less_is a b ∙ lt-ltb a b l) i) && not (is_lt (nat_cmp b a))) ∙ sym (ne_eqb b a ne))
  | inr (inr l) ↦ (
      let ne : b ≡ a → ⊥ = λ e. absurd (omega (arith, l, e)) in
      let n : b ≤ a = omega (arith, l) in
      (λ i. not ((less_is a b ∙ le-ltb a b n) i) && not ((less_is b a ∙ lt-ltb b a l) i)) ∙ sym (ne_eqb b a ne))
]

-- a filter by two tests
pub filter_two : {X : Type 0} (p q : X → Bool) (xs : List X) → filter (λ x. p x && q x) xs ≡ filter q (filter p xs)
filter_two p q [] = refl
filter_two p q (x ∷ xs) = by (p x) (filter_two p q xs)
  where
    by : (b : Bool) → filter (λ y. p y && q y) xs ≡ filter q (filter p xs) → cond (b && q x) (x ∷ filter (λ y. p y && q y) xs) (filter (λ y. p y && q y) xs) ≡ filter q (cond b (x ∷ filter p xs) (filter p xs))
    by true rest = λ i. cond (q x) (x ∷ rest i) (rest i)
    by false rest = rest

and_swap : (a b : Bool) → (a && b) ≡ (b && a)
and_swap true true = refl
and_swap true false = refl
and_swap false true = refl
and_swap false false = refl

pub filter_swap : {X : Type 0} (p q : X → Bool) (xs : List X) → filter q (filter p xs) ≡ filter p (filter q xs)
filter_swap p q xs = sym (filter_two p q xs) ∙ (λ i. filter (λ x. and_swap (p x) (q x) i) xs) ∙ filter_two q p xs

-- elements of one key stay in their order
pub kept_key : {X : Type 0} (f : X → ℕ) (x : X) (xs ys : List X) → IsStableByKey f nat_cmp xs ys → filter (λ e. f e == f x) ys ≡ filter (λ e. f e == f x) xs
kept_key f x xs ys h = (λ i. filter (λ e. sym (tie_is (f x) (f e)) i) ys) ∙ h x ∙ (λ i. filter (λ e. tie_is (f x) (f e) i) xs)

pub sorted_twice : (xs ys zs : List Entry) → IsPermutation xs ys → IsPermutation ys zs → IsSortedByKey (λ (e : Entry). e.place) nat_cmp ys → IsStableByKey (λ (e : Entry). e.place) nat_cmp xs ys
    → IsSortedByKey (λ (e : Entry). e.object) nat_cmp zs → IsStableByKey (λ (e : Entry). e.object) nat_cmp ys zs → IsInOrder xs zs
sorted_twice xs ys zs p q up first on second = record {
  same = IsPermutation-trans xs ys zs p q;
  objects = IsNonDecreasingBy-from_sort (λ (e : Entry). e.object) zs on;
  places = ties_still_rise (λ (e : Entry). e.place) (λ (e : Entry). e.object) ys zs up second;
  kept = kept;
}
  where
    kept : (o k : ℕ) → filter (is_entry_at o k) zs ≡ filter (is_entry_at o k) xs
    kept o k =
        let by_object : Entry → Bool = λ e. e.object == o in
        let by_place : Entry → Bool = λ e. e.place == k in
        filter_two by_object by_place zs
        ∙ ap (filter by_place) (kept_key (λ e. e.object) (record no_entry { object = o }) ys zs second)
        ∙ filter_swap by_object by_place ys
        ∙ ap (filter by_object) (kept_key (λ e. e.place) (record no_entry { place = k }) xs ys first)
        ∙ filter_swap by_place by_object xs
        ∙ sym (filter_two by_object by_place xs)
