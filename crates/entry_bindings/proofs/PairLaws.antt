-- Pairs of a list, in which each element stands in a relation to each later one.
use Rattle.std.specs.Prelude.{◌≡◌, ◌⊎◌, ◌<◌, ℕ, zero, suc, Bool, true, false, List, [], ◌∷◌, ◌++◌, map, length, Option, None, Some, slice_index_or, Contains, AllPairs}
use Rattle.std.specs.List.{filter, filter_map, cons_option, flat_map}
use Rattle.std.proofs.Common.{refl, subst, inl, inr, arith, cond}
use Rattle.std.proofs.lemmas.List.Elements.{Contains-append_cases}
use Rattle.mof_metamodel.proofs.Facts.{contains_first}
use Rattle.template_match.proofs.ListLaws.{contains_later}
use Rattle.entry_bindings.proofs.ListLaws.{filtered_from, picked_from, joined_from, mapped_from}

-- each element stands so to each later one
abbrev pub AllLater : {X : Type 0} → (X → X → Type 0) → List X → Type 0
AllLater R [] = Unit {0}
AllLater {X} R (x ∷ xs) = ((y : X) → Contains xs y → R x y) × AllLater R xs

pub later_from_pairs : {X : Type 0} (R : X → X → Type 0) (xs : List X) → AllPairs R xs → AllLater R xs
later_from_pairs R [] h = tt
later_from_pairs R (x ∷ xs) h =
    (λ y there. let (k, less, is) = there in subst (R x) is (h zero (suc k) y (omega arith) (omega (arith, less))), later_from_pairs R xs (λ i j d before less. h (suc i) (suc j) d (omega (arith, before)) (omega (arith, less))))

within_at : {X : Type 0} (xs : List X) (k : ℕ) (d : X) → k < length xs → Contains xs (slice_index_or xs k d)
within_at [] k d less = absurd (omega (arith, less))
within_at (x ∷ xs) zero d less = contains_first x xs
within_at (x ∷ xs) (suc k) d less = contains_later (slice_index_or xs k d) x xs (within_at xs k d (omega (arith, less)))

pub pairs_from_later : {X : Type 0} (R : X → X → Type 0) (xs : List X) → AllLater R xs → AllPairs R xs
pairs_from_later R [] h i j d before less = absurd (omega (arith, less))
pairs_from_later R (x ∷ xs) h zero zero d before less = absurd (omega (arith, before))
pairs_from_later R (x ∷ xs) h zero (suc j) d before less = h.0 (slice_index_or xs j d) (within_at xs j d (omega (arith, less)))
pairs_from_later R (x ∷ xs) h (suc i) zero d before less = absurd (omega (arith, before))
pairs_from_later R (x ∷ xs) h (suc i) (suc j) d before less = pairs_from_later R xs h.1 i j d (omega (arith, before)) (omega (arith, less))

pub later_more : {X : Type 0} (R S : X → X → Type 0) (xs : List X) → ((x y : X) → R x y → S x y) → AllLater R xs → AllLater S xs
later_more R S [] more h = tt
later_more R S (x ∷ xs) more h = (λ y there. more x y (h.0 y there), later_more R S xs more h.1)

later_joined : {X : Type 0} (R : X → X → Type 0) (xs ys : List X) → AllLater R xs → AllLater R ys → ((x y : X) → Contains xs x → Contains ys y → R x y) → AllLater R (xs ++ ys)
later_joined R [] ys one other across = other
later_joined {X} R (x ∷ xs) ys one other across =
    (λ y there. by y (Contains-append_cases xs ys y there), later_joined R xs ys one.1 other (λ z y there within. across z y (contains_later z x xs there) within))
  where
    by : (y : X) → Contains xs y ⊎ Contains ys y → R x y
    by y (inl h) = one.0 y h
    by y (inr h) = across x y (contains_first x xs) h

-- joined lists, where what comes of two elements stands so, and so does what comes of one
pub later_flat : {X Y : Type 0} (S : X → X → Type 0) (R : Y → Y → Type 0) (f : X → List Y) (xs : List X) → AllLater S xs → ((x : X) → Contains xs x → AllLater R (f x))
    → ((x y : X) (u v : Y) → Contains xs x → Contains xs y → S x y → Contains (f x) u → Contains (f y) v → R u v) → AllLater R (flat_map f xs)
later_flat S R f [] h each across = tt
later_flat S R f (x ∷ xs) h each across =
    later_joined R (f x) (flat_map f xs) (each x (contains_first x xs))
    (later_flat S R f xs h.1 (λ y there. each y (contains_later y x xs there)) (λ y z u v one other. across y z u v (contains_later y x xs one) (contains_later z x xs other)))
    (λ u v one other. let (y, there, within) = joined_from f xs v other in across x y u v (contains_first x xs) (contains_later y x xs there) (h.0 y there) one within)

pub later_picked : {X Y : Type 0} (S : X → X → Type 0) (R : Y → Y → Type 0) (f : X → Option Y) (xs : List X) → AllLater S xs
    → ((x y : X) (u v : Y) → Contains xs x → Contains xs y → S x y → f x ≡ Some u → f y ≡ Some v → R u v) → AllLater R (filter_map f xs)
later_picked S R f [] h across = tt
later_picked {X} {Y} S R f (x ∷ xs) h across =
    by (f x) refl (later_picked S R f xs h.1 (λ y z u v one other. across y z u v (contains_later y x xs one) (contains_later z x xs other)))
  where
    by : (o : Option Y) → f x ≡ o → AllLater R (filter_map f xs) → AllLater R (cons_option o (filter_map f xs))
    by None is rest = rest
    by (Some u) is rest =
        (λ v there. let (y, within, at) = picked_from f xs v there in across x y u v (contains_first x xs) (contains_later y x xs within) (h.0 y within) is at, rest)

pub later_filtered : {X : Type 0} (R : X → X → Type 0) (p : X → Bool) (xs : List X) → AllLater R xs → AllLater R (filter p xs)
later_filtered R p [] h = tt
later_filtered R p (x ∷ xs) h = by (p x) (later_filtered R p xs h.1)
  where
    by : (b : Bool) → AllLater R (filter p xs) → AllLater R (cond b (x ∷ filter p xs) (filter p xs))
    by true rest = (λ y there. h.0 y (filtered_from p xs y there).0, rest)
    by false rest = rest

pub later_mapped : {X Y : Type 0} (S : X → X → Type 0) (R : Y → Y → Type 0) (f : X → Y) (xs : List X) → AllLater S xs
    → ((x y : X) → Contains xs x → Contains xs y → S x y → R (f x) (f y)) → AllLater R (map f xs)
later_mapped S R f [] h across = tt
later_mapped {X} {Y} S R f (x ∷ xs) h across = (
  λ v there. let (y, within, is) = mapped_from f xs v there in subst (R (f x)) is (across x y (contains_first x xs) (contains_later y x xs within) (h.0 y within)),
  later_mapped S R f xs h.1 (λ y z one other. across y z (contains_later y x xs one) (contains_later z x xs other)),
)
