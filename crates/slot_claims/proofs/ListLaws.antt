-- Lists that are filtered and searched.
use Rattle.std.specs.Prelude.{◌≡◌, Bool, true, false, ◌&&◌, ◌||◌, List, [], ◌∷◌, filter, cond, Option, None, Some, Contains}
use Rattle.std.specs.Cmp.{IsTotalOrder, both_ways, Equal-is}
use Rattle.std.specs.FinMap.{IsAntisymmetric}
use Rattle.std.specs.List.{list_any, filter_map, cons_option}
use Rattle.std.specs.Ordering.{is_eq}
use Rattle.std.specs.declared.cmp.Ordering.{Ordering}
use Rattle.std.proofs.Common.{refl, sym, ap, ◌∙◌, subst, inl, inr}
use Rattle.std.proofs.lemmas.Cmp.{tied_itself}
use Rattle.std.proofs.lemmas.List.Folds.{Any-from_list_any, list_any-from_Any}
use Rattle.std.proofs.lemmas.List.Elements.{All-contains, filter_passes}
use Rattle.mof_metamodel.proofs.Facts.{contains_first, nothing_in}
use Rattle.object_tables.proofs.ListLemmas.{Contains-filter}
use Rattle.object_tables.proofs.SlotLemmas.{Contains-to_filter}
use Rattle.template_match.proofs.ListLaws.{contains_later}
use Rattle.slot_claims.proofs.OnceLaws.{HaveSame, contains_cases}

-- ---- tests

-- where a test tells elements apart and an order does too, the test passes where the order ties
pub same_by_order : {X : Type 0} (same : X → X → Bool) (order : X → X → Ordering) → IsTotalOrder order → IsAntisymmetric order
    → ((x y : X) → same x y ≡ true → x ≡ y) → ((x : X) → same x x ≡ true) → (x y : X) → same x y ≡ is_eq (order x y)
same_by_order same order total exact is itself x y =
    both_ways (same x y) (is_eq (order x y))
    (λ h. ap is_eq (ap (order x) (sym (is x y h)) ∙ tied_itself total x))
    (λ h. ap (same x) (sym (exact x y ((Equal-is (order x y)).0 h))) ∙ itself x)

-- lists with the same elements pass a search alike
pub any_alike : {X : Type 0} (p : X → Bool) (xs ys : List X) → HaveSame xs ys → list_any p xs ≡ list_any p ys
any_alike {X} p xs ys same = both_ways (list_any p xs) (list_any p ys) (moved xs ys same.there) (moved ys xs same.back)
  where
    moved : (us vs : List X) → ((x : X) → Contains us x → Contains vs x) → list_any p us ≡ true → list_any p vs ≡ true
    moved us vs over h =
        let (k, x, below, is, pass) = Any-from_list_any p us h in
        let (j, within, at) = over x (k, below, is) in
        list_any-from_Any p vs (j, x, within, at, pass)

-- a search among what is filtered
pub any_filtered : {X : Type 0} (p q : X → Bool) (xs : List X) → list_any q (filter p xs) ≡ list_any (λ x. p x && q x) xs
any_filtered p q [] = refl
any_filtered {X} p q (x ∷ xs) = by (p x) ∙ ap (λ b. (p x && q x) || b) (any_filtered p q xs)
  where
    by : (b : Bool) → list_any q (cond b (x ∷ filter p xs) (filter p xs)) ≡ (b && q x) || list_any q (filter p xs)
    by true = refl
    by false = refl

-- ---- elements of lists

same_filtered_half : {X : Type 0} (p : X → Bool) (xs ys : List X) → ((x : X) → Contains xs x → Contains ys x) → (x : X) → Contains (filter p xs) x
    → Contains (filter p ys) x
same_filtered_half p xs ys over x c =
    Contains-to_filter p ys x (All-contains (λ z. p z ≡ true) (filter p xs) x (filter_passes p xs) c) (over x (Contains-filter p xs x c))

-- what has the same elements has so behind a test
pub same_filtered : {X : Type 0} (p : X → Bool) (xs ys : List X) → HaveSame xs ys → HaveSame (filter p xs) (filter p ys)
same_filtered p xs ys same = record { there = same_filtered_half p xs ys same.there; back = same_filtered_half p ys xs same.back }

module _ {X Y : Type 0} (f : X → Option Y) where
  gives_first : (x : X) (xs : List X) (y : Y) (o : Option Y) → f x ≡ o → o ≡ Some y → Contains (filter_map f (x ∷ xs)) y
  gives_first x xs y None is h = absurd (cc)
  gives_first x xs y (Some z) is h = subst (λ o. Contains (cons_option o (filter_map f xs)) y) (sym (is ∙ h)) (contains_first y (filter_map f xs))

  gives_later : (x : X) (xs : List X) (y : Y) (o : Option Y) → f x ≡ o → Contains (filter_map f xs) y → Contains (filter_map f (x ∷ xs)) y
  gives_later x xs y None is c = subst (λ o. Contains (cons_option o (filter_map f xs)) y) (sym is) c
  gives_later x xs y (Some z) is c = subst (λ o. Contains (cons_option o (filter_map f xs)) y) (sym is) (contains_later y z (filter_map f xs) c)

  to_filter_map : (xs : List X) (x : X) (y : Y) → Contains xs x → f x ≡ Some y → Contains (filter_map f xs) y
  to_filter_map [] x y c is = absurd (nothing_in x c)
  to_filter_map (z ∷ xs) x y c is =
      elim (contains_cases x z xs c) [
        | inl first ↦ gives_first z xs y (f z) refl (ap f first ∙ is)
        | inr later ↦ gives_later z xs y (f z) refl (to_filter_map xs x y later is)
      ]

  from_filter_map : (xs : List X) (y : Y) → Contains (filter_map f xs) y → (x : X) × Contains xs x × (f x ≡ Some y)
  from_filter_map [] y c = absurd (nothing_in y c)
  from_filter_map (x ∷ xs) y c = by (f x) refl c (from_filter_map xs y)
    where
      by : (o : Option Y) → f x ≡ o → Contains (cons_option o (filter_map f xs)) y
          → (Contains (filter_map f xs) y → (z : X) × Contains xs z × (f z ≡ Some y)) → (z : X) × Contains (x ∷ xs) z × (f z ≡ Some y)
      by None is d rest = let found = rest d in (found.0, contains_later found.0 x xs found.1, found.2)
      by (Some w) is d rest =
          elim (contains_cases y w (filter_map f xs) d) [
            | inl same ↦ (x, contains_first x xs, is ∙ ap (λ v. Some v) same)
            | inr later ↦ (let found = rest later in (found.0, contains_later found.0 x xs found.1, found.2))
          ]

  moved : (xs ys : List X) → ((x : X) → Contains xs x → Contains ys x) → (y : Y) → Contains (filter_map f xs) y → Contains (filter_map f ys) y
  moved xs ys over y c = let found = from_filter_map xs y c in to_filter_map ys found.0 y (over found.0 found.1) found.2

  -- what has the same elements gives the same ones
  pub same_given : (xs ys : List X) → HaveSame xs ys → HaveSame (filter_map f xs) (filter_map f ys)
  same_given xs ys same = record { there = moved xs ys same.there; back = moved ys xs same.back }
