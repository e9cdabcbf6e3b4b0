-- Lists in which equal elements stand once: what is in them, and that no two of their elements are one.
use Rattle.std.specs.Prelude.{◌≡◌, ◌≢◌, ◌⊎◌, List, [], ◌∷◌, Contains}
use Rattle.std.specs.Cmp.{IsTotalOrder}
use Rattle.std.specs.Ordering.{match_ordering, ordering_reverse}
use Rattle.std.specs.declared.cmp.Ordering.{Ordering}
use Rattle.std.specs.declared.cmp.Ordering.TheVariants.{Less, Equal, Greater}
use Rattle.std.proofs.Common.{refl, ap, sym, ◌∙◌, subst, inl, inr}
use Rattle.std.proofs.lemmas.Cmp.{tied_itself}
use Rattle.mof_metamodel.proofs.Facts.{nothing_in, contains_first}
use Rattle.template_match.proofs.ListLaws.{contains_later}
use Rattle.repair_semantics.specs.Terms.{placed_by, each_once}
use Rattle.candidate_laws.proofs.Lists.{here_or_later, AllLater, later_weaker}

less_equal : Less ≡ Equal → ⊥
less_equal h = cc

module _ {X : Type 0} (order : X → X → Ordering) where
  -- ---- what is in it

  placed_from : (x z : X) (ys : List X) → Contains (placed_by order x ys) z → (x ≡ z) ⊎ Contains ys z
  placed_from x z [] c = here_or_later x z [] c
  placed_from x z (y ∷ ys) c = by (placed_from x z ys) (order x y) c
    where
      behind : (Contains (placed_by order x ys) z → (x ≡ z) ⊎ Contains ys z) → (y ≡ z) ⊎ Contains (placed_by order x ys) z
          → (x ≡ z) ⊎ Contains (y ∷ ys) z
      behind rest (inl same) = inr (subst (Contains (y ∷ ys)) same (contains_first y ys))
      behind rest (inr there) = elim (rest there) [ inl same ↦ inl same | inr later ↦ inr (contains_later z y ys later) ]

      by : (Contains (placed_by order x ys) z → (x ≡ z) ⊎ Contains ys z) → (o : Ordering)
          → Contains (match_ordering o (x ∷ y ∷ ys) (y ∷ ys) (y ∷ placed_by order x ys)) z
          → (x ≡ z) ⊎ Contains (y ∷ ys) z
      by rest Less d = here_or_later x z (y ∷ ys) d
      by rest Equal d = inr d
      by rest Greater d = behind rest (here_or_later y z (placed_by order x ys) d)

  -- each element is one of the list
  pub once_from : (xs : List X) (z : X) → Contains (each_once order xs) z → Contains xs z
  once_from [] z c = c
  once_from (x ∷ xs) z c = elim (placed_from x z (each_once order xs) c) [
    | inl same ↦ subst (Contains (x ∷ xs)) same (contains_first x xs)
    | inr there ↦ contains_later z x xs (once_from xs z there)
  ]

  module _ (one : (x y : X) → order x y ≡ Equal → x ≡ y) where
    placed_new : (x : X) (ys : List X) → Contains (placed_by order x ys) x
    placed_new x [] = contains_first x []
    placed_new x (y ∷ ys) = by (order x y) refl (placed_new x ys)
      where
        by : (o : Ordering) → order x y ≡ o → Contains (placed_by order x ys) x
            → Contains (match_ordering o (x ∷ y ∷ ys) (y ∷ ys) (y ∷ placed_by order x ys)) x
        by Less is later = contains_first x (y ∷ ys)
        by Equal is later = subst (λ z. Contains (z ∷ ys) x) (one x y is) (contains_first x ys)
        by Greater is later = contains_later x y (placed_by order x ys) later

    placed_keeps : (x z : X) (ys : List X) → Contains ys z → Contains (placed_by order x ys) z
    placed_keeps x z [] c = absurd (nothing_in z c)
    placed_keeps x z (y ∷ ys) c = by (order x y) (placed_keeps x z ys)
      where
        by : (o : Ordering) → (Contains ys z → Contains (placed_by order x ys) z)
            → Contains (match_ordering o (x ∷ y ∷ ys) (y ∷ ys) (y ∷ placed_by order x ys)) z
        by Less later = contains_later z x (y ∷ ys) c
        by Equal later = c
        by Greater later = elim (here_or_later y z ys c) [
          | inl same ↦ subst (Contains (y ∷ placed_by order x ys)) same (contains_first y (placed_by order x ys))
          | inr there ↦ contains_later z y (placed_by order x ys) (later there)
        ]

    -- each element of the list is in it, where equal elements are one
    pub once_has : (xs : List X) (z : X) → Contains xs z → Contains (each_once order xs) z
    once_has [] z c = c
    once_has (x ∷ xs) z c = elim (here_or_later x z xs c) [
      | inl same ↦ subst (Contains (placed_by order x (each_once order xs))) same (placed_new x (each_once order xs))
      | inr there ↦ placed_keeps x z (each_once order xs) (once_has xs z there)
    ]

  -- ---- no two are one

  module _ (total : IsTotalOrder order) where
    abbrev IsBefore : X → X → Type 0
    IsBefore x y = order x y ≡ Less

    placed_in_order : (x : X) (ys : List X) → AllLater IsBefore ys → AllLater IsBefore (placed_by order x ys)
    placed_in_order x [] h = (λ y c. absurd (nothing_in y c), tt)
    placed_in_order x (y ∷ ys) h = by (order x y) refl (placed_in_order x ys h.1)
      where
        above : order x y ≡ Less → (z : X) → Contains (y ∷ ys) z → IsBefore x z
        above less z c = elim (here_or_later y z ys c) [
          | inl same ↦ subst (IsBefore x) same less
          | inr there ↦ total.trans x y z less (h.0 z there)
        ]

        under : order x y ≡ Greater → (z : X) → Contains (placed_by order x ys) z → IsBefore y z
        under greater z c = elim (placed_from x z ys c) [
          | inl same ↦ subst (IsBefore y) same (total.antisymm y x ∙ ap ordering_reverse greater)
          | inr there ↦ h.0 z there
        ]

        by : (o : Ordering) → order x y ≡ o → AllLater IsBefore (placed_by order x ys)
            → AllLater IsBefore (match_ordering o (x ∷ y ∷ ys) (y ∷ ys) (y ∷ placed_by order x ys))
        by Less is later = (above is, h)
        by Equal is later = h
        by Greater is later = (under is, later)

    in_order : (xs : List X) → AllLater IsBefore (each_once order xs)
    in_order [] = tt
    in_order (x ∷ xs) = placed_in_order x (each_once order xs) (in_order xs)

    pub once_apart : (xs : List X) → AllLater (λ (x y : X). x ≢ y) (each_once order xs)
    once_apart xs =
        later_weaker IsBefore (λ (x y : X). x ≢ y) (each_once order xs)
        (λ x y a b less same. less_equal (sym less ∙ ap (order x) (sym same) ∙ tied_itself total x)) (in_order xs)
