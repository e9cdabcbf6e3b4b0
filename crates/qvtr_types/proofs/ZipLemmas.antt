-- Two lists that agree place by place: what stands at a place, and their length.
use Rattle.std.proofs.Common.{◌≡◌, ℕ, zero, suc, List, [], ◌∷◌, refl, ap, subst, length}
use Rattle.std.specs.Prelude.{Some, slice_get}
use Rattle.std.specs.List.{AllZip}
use Rattle.std.proofs.lemmas.Option.{same_Some, none-some}

module _ {A B : Type 0} (R : A → B → Type 0) where
  -- what the second list has at a place, the first has something for
  pub zip_left : (xs : List A) (ys : List B) (i : ℕ) (y : B) → AllZip R xs ys → slice_get ys i ≡ Some y → (x : A) × (slice_get xs i ≡ Some x) × R x y
  zip_left [] [] i y all found = absurd (none-some y found)
  zip_left [] (z ∷ ys) i y all found = absurd all
  zip_left (w ∷ xs) [] i y all found = absurd all
  zip_left (w ∷ xs) (z ∷ ys) zero y all found = (w, refl, subst (R w) (same_Some z y found) all.0)
  zip_left (w ∷ xs) (z ∷ ys) (suc i) y all found = zip_left xs ys i y all.1 found

  pub zip_right : (xs : List A) (ys : List B) (i : ℕ) (x : A) → AllZip R xs ys → slice_get xs i ≡ Some x → (y : B) × (slice_get ys i ≡ Some y) × R x y
  zip_right [] [] i x all found = absurd (none-some x found)
  zip_right [] (z ∷ ys) i x all found = absurd all
  zip_right (w ∷ xs) [] i x all found = absurd all
  zip_right (w ∷ xs) (z ∷ ys) zero x all found = (z, refl, subst (λ v. R v z) (same_Some w x found) all.0)
  zip_right (w ∷ xs) (z ∷ ys) (suc i) x all found = zip_right xs ys i x all.1 found

  pub zip_length : (xs : List A) (ys : List B) → AllZip R xs ys → length xs ≡ length ys
  zip_length [] [] all = refl
  zip_length [] (y ∷ ys) all = absurd all
  zip_length (x ∷ xs) [] all = absurd all
  zip_length (x ∷ xs) (y ∷ ys) all = ap suc (zip_length xs ys all.1)
