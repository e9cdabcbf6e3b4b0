-- Claims of one demand don't exclude each other: two of one place say the same, since at most one of two opposites is composite.
use Rattle.std.specs.Prelude.{◌≡◌, ◌<◌, ℕ, Bool, true, false, ◌==◌, [], ◌∷◌, Option, None, Some, All, Contains}
use Rattle.std.proofs.Common.{refl, ap, sym, ◌∙◌, cond}
use Rattle.std.proofs.lemmas.List.Elements.{All-nil, All-cons, All-append, All-contains}
use Rattle.std.proofs.lemmas.Map.Views.{exact_unsigned_eq}
use Rattle.mof_metamodel.specs.declared.desc.MetaDesc.{MetaDesc}
use Rattle.mof_metamodel.specs.Metamodels.{prop_at, prop_count, opposite_of}
use Rattle.mof_metamodel.specs.WellMeta.{WellMeta, HaveOneContainer}
use Rattle.repair_semantics.specs.Claims.{Held, Spot, Said, Claim, part_claim, opposite_claims, far_claims, claims_of}
use Rattle.demand_conflicts.proofs.SaidLaws.{number_itself}

-- ---- a link

module _ (meta : MetaDesc) (a b p : ℕ) where
  -- what a link from a at p to b says of the container of a part
  abbrev part_said : Bool → Option ℕ → Said ℕ
  part_said true o = Said.within a p
  part_said false None = Said.within a p
  part_said false (Some q) = Said.within b q

  -- what it says of a place
  abbrev link_said : Option ℕ → Spot ℕ → Said ℕ
  link_said o (Spot.slot x r) = Said.element (Held.object (cond (x == a) b a))
  link_said o (Spot.container x) = part_said (prop_at meta p).composite o

  abbrev IsSaid : Option ℕ → Claim ℕ → Type 0
  IsSaid o c = c.said ≡ link_said o c.spot

  own_said : (o : Option ℕ) → IsSaid o (record { spot = Spot.slot a p; said = Said.element (Held.object b) })
  own_said o = ap (λ t. Said.element (Held.object (cond t b a))) (sym (number_itself a))

  near_said : (o : Option ℕ) → All (IsSaid o) (part_claim (prop_at meta p).composite b a p)
  near_said o = by (prop_at meta p).composite refl
    where
      by : (t : Bool) → (prop_at meta p).composite ≡ t → All (IsSaid o) (part_claim t b a p)
      by true is = All-cons (IsSaid o) (record { spot = Spot.container b; said = Said.within a p }) [] (ap (λ t. part_said t o) (sym is)) (All-nil (IsSaid o))
      by false is = All-nil (IsSaid o)

  module _ (q : ℕ) (one : HaveOneContainer meta p q) where
    slot_said : IsSaid (Some q) (record { spot = Spot.slot b q; said = Said.element (Held.object a) })
    slot_said = by (b == a) refl
      where
        by : (t : Bool) → (b == a) ≡ t → Said.element (Held.object a) ≡ Said.element (Held.object (cond t b a))
        by true is = ap (λ x. Said.element (Held.object x)) (sym (exact_unsigned_eq b a is))
        by false is = refl

    far_part_said : All (IsSaid (Some q)) (part_claim (prop_at meta q).composite a b q)
    far_part_said = by (prop_at meta q).composite refl
      where
        other : (t : Bool) → (prop_at meta p).composite ≡ t → (prop_at meta q).composite ≡ true → Said.within b q ≡ part_said t (Some q)
        other true is far = absurd (one is far)
        other false is far = refl

        by : (t : Bool) → (prop_at meta q).composite ≡ t → All (IsSaid (Some q)) (part_claim t a b q)
        by true far =
            All-cons (IsSaid (Some q)) (record { spot = Spot.container a; said = Said.within b q }) [] (other (prop_at meta p).composite refl far) (All-nil (IsSaid (Some q)))
        by false far = All-nil (IsSaid (Some q))

  opposite_said : (o : Option ℕ) → ((q : ℕ) → o ≡ Some q → HaveOneContainer meta p q) → All (IsSaid o) (opposite_claims meta a b o)
  opposite_said None one = All-nil (IsSaid None)
  opposite_said (Some q) one =
      All-cons (IsSaid (Some q)) (record { spot = Spot.slot b q; said = Said.element (Held.object a) }) (part_claim (prop_at meta q).composite a b q) (slot_said q (one q refl)) (far_part_said q (one q refl))

  link_claims_said : ((q : ℕ) → opposite_of meta p ≡ Some q → HaveOneContainer meta p q) → All (IsSaid (opposite_of meta p)) (claims_of meta (record { owner = a; prop = p; holds = Held.object b }))
  link_claims_said one =
      let o = opposite_of meta p in
      All-cons (IsSaid o) (record { spot = Spot.slot a p; said = Said.element (Held.object b) }) (far_claims meta a p (Held.object b)) (own_said o)
      (All-append (IsSaid o) (opposite_claims meta a b o) (part_claim (prop_at meta p).composite b a p) (opposite_said o one) (near_said o))

-- ---- each demand

pub one_fact_agrees : (meta : MetaDesc) → WellMeta meta → (a p : ℕ) (h : Held ℕ) → p < prop_count meta → (c d : Claim ℕ)
    → Contains (claims_of meta (record { owner = a; prop = p; holds = h })) c → Contains (claims_of meta (record { owner = a; prop = p; holds = h })) d → c.spot ≡ d.spot → c.said ≡ d.said
one_fact_agrees meta well a p (Held.datum v) below c d of_c of_d spot =
    let own : Claim ℕ = record { spot = Spot.slot a p; said = Said.element (Held.datum v) } in
    let P : Claim ℕ → Type 0 = λ e. e.said ≡ Said.element (Held.datum v) in
    let all : All P (own ∷ []) = All-cons P own [] refl (All-nil P) in
    All-contains P (own ∷ []) c all of_c ∙ sym (All-contains P (own ∷ []) d all of_d)
one_fact_agrees meta well a p (Held.object b) below c d of_c of_d spot =
    let o = opposite_of meta p in
    let claims = claims_of meta (record { owner = a; prop = p; holds = Held.object b }) in
    let P : Claim ℕ → Type 0 = IsSaid meta a b p o in
    let all : All P claims = link_claims_said meta a b p (λ q is. well.containers p q below is) in
    All-contains P claims c all of_c ∙ ap (link_said meta a b p o) spot ∙ sym (All-contains P claims d all of_d)
