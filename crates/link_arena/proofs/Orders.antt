-- Lists put in another order, one number after another.
use Rattle.std.proofs.Common.{◌≡◌, ◌≢◌, ℕ, List, sym, ◌∙◌, inl, inr, eqb, eq-eqb, ne_eqb}
use Rattle.std.proofs.lemmas.Bool.{cases_eq}
use Rattle.std.proofs.lemmas.Bool.Decides.{Decides-eqb}
use Rattle.std.proofs.lemmas.Map.Keys.{IsDistinct-IsPermutation}
use Rattle.std.proofs.lemmas.Map.Made.{AllPairs-from_IsDistinct, IsDistinct-from_AllPairs}
use Rattle.std.specs.Prelude.{AllPairs, IsPermutation}

pub eqb_comm : (x y : ℕ) → eqb x y ≡ eqb y x
eqb_comm x y =
    elim (cases_eq x y) [
      | inl same ↦ eq-eqb x y same ∙ sym (eq-eqb y x (sym same))
      | inr other ↦ ne_eqb x y other ∙ sym (ne_eqb y x (λ e. other (sym e)))
    ]

-- an order of numbers that differ has numbers that differ
pub AllPairs-permutation : (xs ys : List ℕ) → IsPermutation xs ys → AllPairs (λ x y. x ≢ y) xs → AllPairs (λ x y. x ≢ y) ys
AllPairs-permutation xs ys same apart =
    AllPairs-from_IsDistinct Decides-eqb ys
    (IsDistinct-IsPermutation eqb eqb_comm xs ys same (IsDistinct-from_AllPairs Decides-eqb xs apart))
