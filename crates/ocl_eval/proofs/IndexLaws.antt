-- Indexes beside models stay indexes of these.
use Rattle.std.proofs.Common.{◌≡◌, ◌<◌, ℕ, zero, suc, List, [], ◌∷◌, ◌++◌, length, get_or, set, refl, sym, ap, subst, arith, Option, None, Some, Bor}
use Rattle.std.specs.Prelude.{slice_get, IfSome}
use Rattle.std.specs.Option.{option_copied}
use Rattle.std.specs.List.{AllZip}
use Rattle.std.proofs.lemmas.Option.{same_Some}

module _ {X Y : Type 0} (R : X → Y → Type 0) where
  pub zip_long : (xs : List X) (ys : List Y) → AllZip R xs ys → length ys ≡ length xs
  zip_long [] [] z = refl
  zip_long [] (y ∷ ys) z = absurd z
  zip_long (x ∷ xs) [] z = absurd z
  zip_long (x ∷ xs) (y ∷ ys) z = ap suc (zip_long xs ys z.1)

  pub zip_push : (xs : List X) (ys : List Y) (x : X) (y : Y) → AllZip R xs ys → R x y → AllZip R (xs ++ x ∷ []) (ys ++ y ∷ [])
  zip_push [] [] x y z r = (r, tt)
  zip_push [] (w ∷ ys) x y z r = absurd z
  zip_push (v ∷ xs) [] x y z r = absurd z
  zip_push (v ∷ xs) (w ∷ ys) x y z r = (z.0, zip_push xs ys x y z.1 r)

  -- another one in each list, at one place
  pub zip_set : (xs : List X) (ys : List Y) (k : ℕ) (x : X) (y : Y) → AllZip R xs ys → R x y → AllZip R (set xs k x) (set ys k y)
  zip_set [] [] k x y z r = tt
  zip_set [] (w ∷ ys) k x y z r = absurd z
  zip_set (v ∷ xs) [] k x y z r = absurd z
  zip_set (v ∷ xs) (w ∷ ys) zero x y z r = (r, z.1)
  zip_set (v ∷ xs) (w ∷ ys) (suc k) x y z r = (z.0, zip_set xs ys k x y z.1 r)

  -- another one in the second list alone
  pub zip_beside : (xs : List X) (ys : List Y) (k : ℕ) (d : X) (y : Y) → AllZip R xs ys → R (get_or xs k d) y → AllZip R xs (set ys k y)
  zip_beside [] [] k d y z r = tt
  zip_beside [] (w ∷ ys) k d y z r = absurd z
  zip_beside (v ∷ xs) [] k d y z r = absurd z
  zip_beside (v ∷ xs) (w ∷ ys) zero d y z r = (r, z.1)
  zip_beside (v ∷ xs) (w ∷ ys) (suc k) d y z r = (z.0, zip_beside xs ys k d y z.1 r)

  pub zip_get : (xs : List X) (ys : List Y) (k : ℕ) (d : X) (e : Y) → AllZip R xs ys → k < length xs → R (get_or xs k d) (get_or ys k e)
  zip_get [] ys k d e z l = absurd (omega (arith, l))
  zip_get (v ∷ xs) [] k d e z l = absurd z
  zip_get (v ∷ xs) (w ∷ ys) zero d e z l = z.0
  zip_get (v ∷ xs) (w ∷ ys) (suc k) d e z l = zip_get xs ys k d e z.1 (omega (arith, l))

  pub zip_at : (xs : List X) (ys : List Y) (k : ℕ) (x : X) (y : Y) → AllZip R xs ys → slice_get xs k ≡ Some x → slice_get ys k ≡ Some y → R x y
  zip_at [] ys k x y z a b = absurd (cc)
  zip_at (v ∷ xs) [] k x y z a b = absurd z
  zip_at (v ∷ xs) (w ∷ ys) zero x y z a b =
      let first : R v w = z.0 in
      subst (λ u. R u y) (same_Some v x a) (subst (R v) (same_Some w y b) first)
  zip_at (v ∷ xs) (w ∷ ys) (suc k) x y z a b = zip_at xs ys k x y z.1 a b

-- what is said of a value is said of what is behind a reference to it
pub if_copied : {X : Type 0} (P : X → Type 0) (r : Option (Bor X)) (o : Option X) → option_copied r ≡ o → ((x : X) → o ≡ Some x → P x) → IfSome r (λ x. P x.now)
if_copied P None o is h = tt
if_copied P (Some x) o is h = h x.now (sym is)
