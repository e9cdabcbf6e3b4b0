-- What a slot of the model that enforcement makes holds: what is kept of the target, and what is claimed, each once.
use Rattle.std.specs.Prelude.{◌≡◌, ◌≢◌, ◌↔◌, ◌⊎◌, ℕ, Bool, true, false, ◌&&◌, not, ◌==◌, List, None, Some, Contains, if◌then◌else◌}
use Rattle.std.specs.List.{list_any}
use Rattle.std.proofs.Common.{refl, ap, sym, ◌∙◌, subst, arith, inl, inr, true≢false}
use Rattle.std.proofs.lemmas.Bool.{and_parts}
use Rattle.std.proofs.lemmas.Bool.Decides.{nat_tests}
use Rattle.std.proofs.lemmas.List.Elements.{Contains-append_left, Contains-append_right, Contains-append_cases}
use Rattle.std.proofs.lemmas.Option.{none-some, same_Some}
use Rattle.object_tables.specs.Models.{ModelData}
use Rattle.object_tables.proofs.SlotLemmas.{Contains-to_filter}
use Rattle.qv_syntax.specs.declared.program.Program.{Program}
use Rattle.template_match.proofs.ListLaws.{any_at, any_from}
use Rattle.repair_semantics.specs.declared.demand.Demand.{Demand}
use Rattle.repair_semantics.specs.Terms.{each_once}
use Rattle.repair_semantics.specs.Claims.{Held, Spot, Said, Claim, is_against, same_held}
use Rattle.repair_semantics.specs.Images.{same_number, held_in}
use Rattle.repair_semantics.specs.Candidates.{element_at, claimed_at, held_order, is_left, fact_at, kept_at, others_than}
use Rattle.candidate_laws.specs.Parts.{IsClaimedIn, IsKeptIn, is_staying, demanded_claims, made_contents}
use Rattle.candidate_laws.proofs.Lists.{from_filter, from_filter_map, in_filter_map, AllLater, later_append, later_filter}
use Rattle.candidate_laws.proofs.Orders.{once_from, once_has, once_apart}
use Rattle.candidate_laws.proofs.HeldOrder.{held_ties, held_total, same_is, same_itself}

not_false : (b : Bool) → not b ≡ true → b ≡ false
not_false false h = refl
not_false true h = sym h

number_itself : (n : ℕ) → (n == n) ≡ true
number_itself n = grind (arith, nat_tests)

-- ---- claims of a slot

-- something is claimed of the slot of an object at a property
abbrev IsClaimed : List (Claim ℕ) → ℕ → ℕ → Held ℕ → Type 0
IsClaimed claims o p h = Contains claims (record { spot = Spot.slot o p; said = Said.element h })

element_is : (o p : ℕ) (spot : Spot ℕ) (said : Said ℕ) (h : Held ℕ) → element_at o p spot said ≡ Some h
    → (spot ≡ Spot.slot o p) × (said ≡ Said.element h)
element_is o p (Spot.slot a q) (Said.element i) h e = by (a == o) refl (q == p) refl e
  where
    by : (x : Bool) → (a == o) ≡ x → (y : Bool) → (q == p) ≡ y → (if x && y then Some i else None) ≡ Some h
        → (Spot.slot a q ≡ Spot.slot o p) × (Said.element i ≡ Said.element h)
    by true objects true props g =
        let object : a ≡ o = grind (arith, nat_tests) in
        let prop : q ≡ p = grind (arith, nat_tests) in
        (ap (λ z. Spot.slot z q) object ∙ ap (Spot.slot o) prop, ap (λ z. Said.element z) (same_Some i h g))
    by true objects false props g = absurd (none-some h g)
    by false objects y props g = absurd (none-some h g)
element_is o p (Spot.slot a q) (Said.within b r) h e = absurd (none-some h e)
element_is o p (Spot.container a) said h e = absurd (none-some h e)

element_itself : (o p : ℕ) (h : Held ℕ) → element_at o p (Spot.slot o p) (Said.element h) ≡ Some h
element_itself o p h = ap (λ b. if b && (p == p) then Some h else None) (number_itself o) ∙ ap (λ b. if b then Some h else None) (number_itself p)

pub claimed_from : (claims : List (Claim ℕ)) (o p : ℕ) (h : Held ℕ) → Contains (claimed_at claims o p) h → IsClaimed claims o p h
claimed_from claims o p h c =
    let (claim, there, gives) = from_filter_map (λ (d : Claim ℕ). element_at o p d.spot d.said) claims h c in
    let is = element_is o p claim.spot claim.said h gives in
    subst (λ (s : Said ℕ). Contains claims (record { spot = Spot.slot o p; said = s })) is.1
    (subst (λ (s : Spot ℕ). Contains claims (record { spot = s; said = claim.said })) is.0 there)

pub claimed_in : (claims : List (Claim ℕ)) (o p : ℕ) (h : Held ℕ) → IsClaimed claims o p h → Contains (claimed_at claims o p) h
claimed_in claims o p h c =
    in_filter_map (λ (d : Claim ℕ). element_at o p d.spot d.said) claims (record { spot = Spot.slot o p; said = Said.element h }) h c
    (element_itself o p h)

-- ---- the slot

-- the list has the element, where a test finds it
found_in : (hs : List (Held ℕ)) (h : Held ℕ) → list_any (same_held same_number h) hs ≡ true → Contains hs h
found_in hs h found = let (i, there, same) = any_from (same_held same_number h) hs found in subst (Contains hs) (sym (same_is h i same)) there

module _ (program : Program) (m : ModelData) (demands : List Demand) where
  abbrev kept_part : ℕ → ℕ → List (Held ℕ)
  kept_part o p = kept_at program m (is_staying program m demands) (demanded_claims program m demands) o p

  abbrev claimed_part : ℕ → ℕ → List (Held ℕ)
  claimed_part o p = claimed_at (demanded_claims program m demands) o p

  abbrev is_displaced : ℕ → ℕ → Held ℕ → Bool
  is_displaced o p h = is_against m.meta same_number (demanded_claims program m demands) (fact_at o p h)

  abbrev stays_at : ℕ → ℕ → Held ℕ → Bool
  stays_at o p h = is_left (is_staying program m demands) h && not (is_displaced o p h)

  kept_from : (o p : ℕ) (h : Held ℕ) → Contains (kept_part o p) h → IsKeptIn program m demands o p h
  kept_from o p h c =
      let passed = from_filter (stays_at o p) (held_in program m o p) h c in
      let parts = and_parts (is_left (is_staying program m demands) h) (not (is_displaced o p h)) passed.1 in
      record { held = passed.0; left = parts.0; unopposed = not_false (is_displaced o p h) parts.1 }

  kept_in : (o p : ℕ) (h : Held ℕ) → IsKeptIn program m demands o p h → Contains (kept_part o p) h
  kept_in o p h k =
      Contains-to_filter (stays_at o p) (held_in program m o p) h
      (ap (λ b. b && not (is_displaced o p h)) k.left ∙ ap not k.unopposed) k.held

  abbrev others : ℕ → ℕ → List (Held ℕ)
  others o p = others_than (kept_part o p) (claimed_part o p)

  -- what a slot holds is kept or claimed
  pub contents_from : (o p : ℕ) (h : Held ℕ) → Contains (made_contents program m demands o p) h
      → IsKeptIn program m demands o p h ⊎ IsClaimedIn program m demands o p h
  contents_from o p h c = elim (Contains-append_cases (kept_part o p) (each_once held_order (others o p)) h c) [
    | inl kept ↦ inl (kept_from o p h kept)
    | inr more ↦ inr (claimed_from (demanded_claims program m demands) o p h
        (from_filter (λ i. not (list_any (same_held same_number i) (kept_part o p))) (claimed_part o p) h
        (once_from held_order (others o p) h more)).0)
  ]

  -- what is kept is held
  pub contents_kept : (o p : ℕ) (h : Held ℕ) → IsKeptIn program m demands o p h → Contains (made_contents program m demands o p) h
  contents_kept o p h k = Contains-append_left (kept_part o p) (each_once held_order (others o p)) h (kept_in o p h k)

  -- what is claimed is held
  pub contents_claimed : (o p : ℕ) (h : Held ℕ) → IsClaimedIn program m demands o p h → Contains (made_contents program m demands o p) h
  contents_claimed o p h c = by (list_any (same_held same_number h) (kept_part o p)) refl
    where
      by : (b : Bool) → list_any (same_held same_number h) (kept_part o p) ≡ b → Contains (made_contents program m demands o p) h
      by true is =
          Contains-append_left (kept_part o p) (each_once held_order (others o p)) h (found_in (kept_part o p) h is)
      by false is =
          Contains-append_right (kept_part o p) (each_once held_order (others o p)) h
          (once_has held_order held_ties (others o p) h
          (Contains-to_filter (λ i. not (list_any (same_held same_number i) (kept_part o p))) (claimed_part o p) h (ap not is)
          (claimed_in (demanded_claims program m demands) o p h c)))

  -- each once, where each is held once in the target
  pub contents_once : (o p : ℕ) → AllLater (λ (h i : Held ℕ). h ≢ i) (held_in program m o p)
      → AllLater (λ (h i : Held ℕ). h ≢ i) (made_contents program m demands o p)
  contents_once o p once =
      later_append (λ (h i : Held ℕ). h ≢ i) (kept_part o p) (each_once held_order (others o p))
      (later_filter (λ (h i : Held ℕ). h ≢ i) (stays_at o p) (held_in program m o p) once) (once_apart held_order held_total (others o p)) across
    where
      across : (h i : Held ℕ) → Contains (kept_part o p) h → Contains (each_once held_order (others o p)) i → h ≢ i
      across h i kept more same =
          let new = from_filter (λ j. not (list_any (same_held same_number j) (kept_part o p))) (claimed_part o p) i
          (once_from held_order (others o p) i more) in
          let there : list_any (same_held same_number i) (kept_part o p) ≡ true =
          any_at (same_held same_number i) (kept_part o p) i (same_itself i) (subst (Contains (kept_part o p)) same kept) in
          true≢false (sym there ∙ not_false (list_any (same_held same_number i) (kept_part o p)) new.1)

  -- what a slot holds is exactly what is kept and what is claimed
  pub contents_exactly : (o p : ℕ) (h : Held ℕ)
      → Contains (made_contents program m demands o p) h ↔ (IsKeptIn program m demands o p h ⊎ IsClaimedIn program m demands o p h)
  contents_exactly o p h = (
    contents_from o p h,
    λ c. elim c [
      | inl kept ↦ contents_kept o p h kept
      | inr claimed ↦ contents_claimed o p h claimed
    ],
  )
