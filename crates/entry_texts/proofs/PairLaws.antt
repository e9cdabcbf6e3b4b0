-- Two lists, place by place.
use Rattle.std.specs.Prelude.{◌≡◌, ◌≤◌, ◌<◌, ◌+◌, ℕ, zero, suc, List, [], ◌∷◌, length, Option, None, Some, drop, slice_get}
use Rattle.std.specs.List.{zip}
use Rattle.std.proofs.Common.{refl, sym, ap, ◌∙◌, get_or}
use Rattle.std.proofs.lemmas.List.{drop_more, drop_all}
use Rattle.std.proofs.lemmas.Option.{slice_get_within, get_or_from_slice_get, none-some}

past : {X : Type 0} (xs : List X) (k : ℕ) → slice_get xs k ≡ None → drop k xs ≡ []
past [] zero none = refl
past [] (suc k) none = refl
past (x ∷ xs) zero none = absurd (none-some x (sym none))
past (x ∷ xs) (suc k) none = past xs k none

beside_none : {X Y : Type 0} (xs : List X) → zip {K = X} {X = Y} xs [] ≡ []
beside_none [] = refl
beside_none (x ∷ xs) = refl

here : {X : Type 0} (xs : List X) (k : ℕ) (x : X) → slice_get xs k ≡ Some x → drop k xs ≡ x ∷ drop (k + 1) xs
here xs k x found = drop_more xs k x (slice_get_within xs k x found) ∙ ap (λ z. z ∷ drop (k + 1) xs) (get_or_from_slice_get xs k x x found)

module _ {X Y : Type 0} (xs : List X) (ys : List Y) (k : ℕ) where
  -- the next pair
  pub pair_next : (x : X) (y : Y) → slice_get xs k ≡ Some x → slice_get ys k ≡ Some y → zip (drop k xs) (drop k ys) ≡ (x, y) ∷ zip (drop (k + 1) xs) (drop (k + 1) ys)
  pair_next x y x_is y_is = ap (λ rest. zip rest (drop k ys)) (here xs k x x_is) ∙ ap (λ rest. zip (x ∷ drop (k + 1) xs) rest) (here ys k y y_is)

  -- where one of the lists ends, so do the pairs
  pub first_ends : slice_get xs k ≡ None → zip (drop k xs) (drop k ys) ≡ []
  first_ends none = ap (λ rest. zip rest (drop k ys)) (past xs k none)

  pub second_ends : slice_get ys k ≡ None → zip (drop k xs) (drop k ys) ≡ []
  second_ends none = ap (λ rest. zip (drop k xs) rest) (past ys k none) ∙ beside_none (drop k xs)
