-- Two lists, place by place.
use Rattle.std.specs.Prelude.{◌≡◌, ◌≤◌, ◌<◌, ◌+◌, ℕ, zero, suc, List, [], ◌∷◌, ◌++◌, map, length, Option, None, Some, drop, slice_get, option_to_list}
use Rattle.std.specs.List.{filter_map, zip, cons_option}
use Rattle.std.proofs.Common.{refl, sym, ap, ◌∙◌, arith, append_assoc, get_or, add-one}
use Rattle.std.proofs.lemmas.List.{append-nil, drop_more, drop_all}
use Rattle.std.proofs.lemmas.Option.{slice_get_within, get_or_from_slice_get, slice_get-get_or, none-some}

module _ {X Y : Type 0} (xs : List X) (ys : List Y) (k : ℕ) where
  -- where the first list ends, so do the pairs
  pub side_ends : slice_get xs k ≡ None → zip (drop k xs) (drop k ys) ≡ []
  side_ends none = ap (λ rest. zip rest (drop k ys)) (past xs k none)
    where
      past : (xs : List X) (k : ℕ) → slice_get xs k ≡ None → drop k xs ≡ []
      past [] zero none = refl
      past [] (suc k) none = refl
      past (x ∷ xs) zero none = absurd (none-some x (sym none))
      past (x ∷ xs) (suc k) none = past xs k none

  -- the next pair
  pub side_next : (x : X) (y : Y) → slice_get xs k ≡ Some x → k < length ys → y ≡ get_or ys k y
      → zip (drop k xs) (drop k ys) ≡ (x, y) ∷ zip (drop (k + 1) xs) (drop (k + 1) ys)
  side_next x y found below is =
      ap (λ rest. zip rest (drop k ys)) (drop_more xs k x (slice_get_within xs k x found) ∙ ap (λ z. z ∷ drop (k + 1) xs) (get_or_from_slice_get xs k x x found))
      ∙ ap (λ rest. zip (x ∷ drop (k + 1) xs) rest) (drop_more ys k y below ∙ ap (λ z. z ∷ drop (k + 1) ys) (sym is))

module _ {X Y Z : Type 0} (xs : List X) (ys : List Y) (k : ℕ) where
  -- what is made of the pairs, where the first list ends
  pub mapped_end : (f : X × Y → Z) (made : List Z) → slice_get xs k ≡ None → made ++ map f (zip (drop k xs) (drop k ys)) ≡ map f (zip xs ys) → made ≡ map f (zip xs ys)
  mapped_end f made none so_far = sym (append-nil made) ∙ ap (λ ps. made ++ map f ps) (sym (side_ends xs ys k none)) ∙ so_far

  pub filtered_end : (f : X × Y → Option Z) (made : List Z) → slice_get xs k ≡ None → made ++ filter_map f (zip (drop k xs) (drop k ys)) ≡ filter_map f (zip xs ys) → made ≡ filter_map f (zip xs ys)
  filtered_end f made none so_far = sym (append-nil made) ∙ ap (λ ps. made ++ filter_map f ps) (sym (side_ends xs ys k none)) ∙ so_far

  -- and with one more of them
  pub mapped_more : (f : X × Y → Z) (made more : List Z) (x : X) (y : Y) (z : Z) → slice_get xs k ≡ Some x → k < length ys → y ≡ get_or ys k y → z ≡ f (x, y) → more ≡ made ++ z ∷ []
      → made ++ map f (zip (drop k xs) (drop k ys)) ≡ map f (zip xs ys) → more ++ map f (zip (drop (k + 1) xs) (drop (k + 1) ys)) ≡ map f (zip xs ys)
  mapped_more f made more x y z found below is says pushed so_far =
      ap (λ ms. ms ++ map f (zip (drop (k + 1) xs) (drop (k + 1) ys))) (pushed ∙ ap (λ w. made ++ w ∷ []) says)
      ∙ append_assoc made (f (x, y) ∷ []) (map f (zip (drop (k + 1) xs) (drop (k + 1) ys)))
      ∙ ap (λ ps. made ++ map f ps) (sym (side_next xs ys k x y found below is)) ∙ so_far

  pub filtered_more : (f : X × Y → Option Z) (made more : List Z) (x : X) (y : Y) → slice_get xs k ≡ Some x → k < length ys → y ≡ get_or ys k y → more ≡ made ++ option_to_list (f (x, y))
      → made ++ filter_map f (zip (drop k xs) (drop k ys)) ≡ filter_map f (zip xs ys) → more ++ filter_map f (zip (drop (k + 1) xs) (drop (k + 1) ys)) ≡ filter_map f (zip xs ys)
  filtered_more f made more x y found below is pushed so_far =
      ap (λ ms. ms ++ filter_map f (zip (drop (k + 1) xs) (drop (k + 1) ys))) pushed
      ∙ append_assoc made (option_to_list (f (x, y))) (filter_map f (zip (drop (k + 1) xs) (drop (k + 1) ys)))
      ∙ ap (λ ps. made ++ ps) (joined (f (x, y)) (filter_map f (zip (drop (k + 1) xs) (drop (k + 1) ys))))
      ∙ ap (λ ps. made ++ filter_map f ps) (sym (side_next xs ys k x y found below is)) ∙ so_far
    where
      joined : (o : Option Z) (zs : List Z) → option_to_list o ++ zs ≡ cons_option o zs
      joined None zs = refl
      joined (Some z) zs = refl

none_beside : {X Y : Type 0} (xs : List X) → zip {K = X} {X = Y} xs [] ≡ []
none_beside [] = refl
none_beside (x ∷ xs) = refl

-- nothing of the second list is left
side_over : {X Y : Type 0} (xs : List X) (ys : List Y) (k : ℕ) → length ys ≤ k → zip (drop k xs) (drop k ys) ≡ []
side_over xs ys k le = ap (zip (drop k xs)) (drop_all k ys le) ∙ none_beside (drop k xs)

module _ {X Y Z : Type 0} (xs : List X) (ys : List Y) (k : ℕ) where
  -- what is made of the pairs, where the second list ends
  pub mapped_all : (f : X × Y → Z) (made : List Z) → length ys ≤ k → made ++ map f (zip (drop k xs) (drop k ys)) ≡ map f (zip xs ys) → made ≡ map f (zip xs ys)
  mapped_all f made le so_far = sym (append-nil made) ∙ ap (λ ps. made ++ map f ps) (sym (side_over xs ys k le)) ∙ so_far

  pub filtered_all : (f : X × Y → Option Z) (made : List Z) → length ys ≤ k → made ++ filter_map f (zip (drop k xs) (drop k ys)) ≡ filter_map f (zip xs ys) → made ≡ filter_map f (zip xs ys)
  filtered_all f made le so_far = sym (append-nil made) ∙ ap (λ ps. made ++ filter_map f ps) (sym (side_over xs ys k le)) ∙ so_far
