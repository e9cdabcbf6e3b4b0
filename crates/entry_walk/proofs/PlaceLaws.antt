-- Places in lists: as a list grows, and of lists whose elements differ.
use Rattle.std.specs.Prelude.{◌≡◌, ◌≢◌, ◌<◌, ◌⊎◌, ℕ, zero, suc, List, [], ◌∷◌, ◌++◌, length, Option, None, Some, slice_get, Contains, All, AllPairs, MatchOption}
use Rattle.std.proofs.Common.{refl, sym, ap, ap₂, subst, ◌∙◌, arith, inl, inr, get_or, length-append}
use Rattle.std.proofs.Math.ListN.{get_or-append}
use Rattle.std.proofs.Math.Seq.{get_or-append_seam}
use Rattle.std.proofs.lemmas.List.Elements.{All-weaker, All-contains_itself}
use Rattle.std.proofs.lemmas.Option.{same_Some, none-some, slice_get-get_or}

pub get_left : {X : Type 0} (xs ys : List X) (n : ℕ) (x : X) → slice_get xs n ≡ Some x → slice_get (xs ++ ys) n ≡ Some x
get_left [] ys n x is = absurd (none-some x is)
get_left (y ∷ xs) ys zero x is = is
get_left (y ∷ xs) ys (suc n) x is = get_left xs ys n x is

pub get_seam : {X : Type 0} (xs ys : List X) (y : X) → slice_get (xs ++ y ∷ ys) (length xs) ≡ Some y
get_seam [] ys y = refl
get_seam (x ∷ xs) ys y = get_seam xs ys y

pub get_push : {X : Type 0} (xs : List X) (y : X) (n : ℕ) (x : X) → slice_get (xs ++ y ∷ []) n ≡ Some x → (slice_get xs n ≡ Some x) ⊎ ((n ≡ length xs) × (y ≡ x))
get_push [] y zero x is = inr (refl, same_Some y x is)
get_push [] y (suc n) x is = absurd (none-some x is)
get_push (z ∷ xs) y zero x is = inl is
get_push (z ∷ xs) y (suc n) x is = by (get_push xs y n x is)
  where
    by : (slice_get xs n ≡ Some x) ⊎ ((n ≡ length xs) × (y ≡ x)) → (slice_get xs n ≡ Some x) ⊎ ((suc n ≡ suc (length xs)) × (y ≡ x))
    by (inl old) = inl old
    by (inr (e, same)) = inr (ap suc e, same)

-- what is in a list stands at a place
pub place_of : {X : Type 0} (xs : List X) (x : X) → Contains xs x → (n : ℕ) × (slice_get xs n ≡ Some x)
place_of xs x (k, within, is) = (k, slice_get-get_or xs k x within ∙ ap Some is)

-- what holds of what is in a list holds of all of it
pub all_of : {X : Type 0} (P : X → Type 0) (xs : List X) → ((x : X) → Contains xs x → P x) → All P xs
all_of P xs each = All-weaker (Contains xs) P each xs (All-contains_itself xs)

pub place_in : {X : Type 0} (xs : List X) (k : ℕ) (d : X) → k < length xs → Contains xs (get_or xs k d)
place_in xs k d less = All-contains_itself xs k d less

-- ---- elements that differ

pub last_apart : {X : Type 0} (xs : List X) (y : X) → AllPairs (λ a b. a ≢ b) (xs ++ y ∷ []) → Contains xs y → ⊥
last_apart xs y distinct (k, within, is) =
    distinct k (length xs) y within (let l = length-append xs (y ∷ []) in omega (arith, l))
    (get_or-append xs (y ∷ []) y k within ∙ is ∙ sym (get_or-append_seam xs y [] y))

-- ---- the last of a list

pub last_same : {X : Type 0} (xs ys : List X) (x y : X) → xs ++ x ∷ [] ≡ ys ++ y ∷ [] → (xs ≡ ys) × (x ≡ y)
last_same [] [] x y e = let same : x ≡ y = cc in (refl, same)
last_same {X} [] (z ∷ ys) x y e = let rest : [] ≡ ys ++ y ∷ [] = cc in absurd (by ys rest)
  where
    by : (zs : List X) → [] ≡ zs ++ y ∷ [] → ⊥
    by [] e = absurd (cc)
    by (w ∷ zs) e = absurd (cc)
last_same {X} (z ∷ xs) [] x y e = let rest : xs ++ x ∷ [] ≡ [] = cc in absurd (by xs rest)
  where
    by : (zs : List X) → zs ++ x ∷ [] ≡ [] → ⊥
    by [] e = absurd (cc)
    by (w ∷ zs) e = absurd (cc)
last_same (z ∷ xs) (w ∷ ys) x y e =
    let tails : xs ++ x ∷ [] ≡ ys ++ y ∷ [] = cc in
    let rest = last_same xs ys x y tails in
    let first : z ≡ w = cc in
    (ap₂ (λ u us. u ∷ us) first rest.0, rest.1)

-- a list that is known by its last element
pub last_is : {X : Type 0} (P : X → Type 0) (all xs ys : List X) (x y : X) → all ≡ xs ++ x ∷ [] → P x → all ≡ ys ++ y ∷ [] → P y
last_is P all xs ys x y one holds other = subst P (last_same xs ys x y (sym one ∙ other)).1 holds

-- ---- what holds of an option

pub match_weaker : {X : Type 0} (o : Option X) (P R : Type 0) (Q S : X → Type 0) → (P → R) → ((x : X) → o ≡ Some x → Q x → S x) → MatchOption o P Q → MatchOption o R S
match_weaker None P R Q S p q h = p h
match_weaker (Some x) P R Q S p q h = q x refl h
