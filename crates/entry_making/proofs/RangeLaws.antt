-- The numbers of a range differ, and their places in another order do.
use Rattle.std.specs.Prelude.{◌≡◌, ◌<◌, ◌+◌, ℕ, zero, suc, Bool, true, false, List, [], ◌∷◌, length, Contains}
use Rattle.std.specs.List.{range_with_len, AllByRecursion, IsDistinct}
use Rattle.std.specs.List.Sorted.{IsPermutation}
use Rattle.std.proofs.Common.{refl, sym, ap, subst, ◌∙◌, arith, eqb, eq-eqb}
use Rattle.std.proofs.lemmas.Bool.{true≢false, eqb-true}
use Rattle.std.proofs.lemmas.List.FromFn.{get_or-range_with_len, length-range_with_len}
use Rattle.std.proofs.lemmas.List.Sorted.{Contains-permutation, IsPermutation-sym}

-- a lesser number is none of a range
above : (a b n : ℕ) → a < b → AllByRecursion (λ y. eqb a y ≡ false) (range_with_len b n)
above a b zero less = tt
above a b (suc n) less = (by (eqb a b) refl, above a (b + 1) n (omega (arith, less)))
  where
    by : (x : Bool) → eqb a b ≡ x → eqb a b ≡ false
    by true is = let e : a ≡ b = eqb-true a b is in absurd (omega (arith, e, less))
    by false is = is

-- no number of a range is another one
pub range_distinct : (a n : ℕ) → IsDistinct eqb (range_with_len a n)
unfolding IsDistinct
range_distinct a zero = tt
range_distinct a (suc n) = (above a (a + 1) n (omega arith), range_distinct (a + 1) n)

pub eqb_flips : (x y : ℕ) → eqb x y ≡ eqb y x
eqb_flips x y = by (eqb x y) (eqb y x) refl refl
  where
    by : (a b : Bool) → eqb x y ≡ a → eqb y x ≡ b → eqb x y ≡ eqb y x
    by true b is other = is ∙ sym (eq-eqb y x (sym (eqb-true x y is)))
    by false true is other = absurd (true≢false (sym (eq-eqb x y (sym (eqb-true y x other))) ∙ is))
    by false false is other = is ∙ sym other

-- each number of a range in another order is below its end
pub ordered_below : (n : ℕ) (order : List ℕ) (v : ℕ) → IsPermutation (range_with_len 0 n) order → Contains order v → v < n
ordered_below n order v range c =
    let (k, within, at) = Contains-permutation order (range_with_len 0 n) v (IsPermutation-sym (range_with_len 0 n) order range) c in
    let e : v ≡ 0 + k = sym at ∙ get_or-range_with_len 0 n k v (omega (arith, within, length-range_with_len 0 n)) in
    omega (arith, e, within, length-range_with_len 0 n)
