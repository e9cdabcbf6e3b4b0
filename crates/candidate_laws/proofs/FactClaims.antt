-- The claims of a fact: that of its own slot, that of the slot at the other end of a link, and those of containers.
use Rattle.std.specs.Prelude.{◌≡◌, ℕ, Bool, true, false, [], Option, None, Some, Contains}
use Rattle.std.proofs.Common.{refl, ap, sym, ◌∙◌, subst, inl, inr}
use Rattle.std.proofs.lemmas.List.Elements.{Contains-append_left, Contains-append_right, Contains-append_cases}
use Rattle.mof_metamodel.specs.declared.desc.MetaDesc.{MetaDesc}
use Rattle.mof_metamodel.specs.Metamodels.{prop_at, opposite_of}
use Rattle.mof_metamodel.proofs.Facts.{nothing_in, contains_first, only_one}
use Rattle.template_match.proofs.ListLaws.{contains_later}
use Rattle.repair_semantics.specs.Claims.{Held, Fact, Spot, Said, Claim, part_claim, opposite_claims, far_claims, claims_of}
use Rattle.candidate_laws.proofs.Lists.{here_or_later}

-- that two objects are linked
abbrev pub link_fact : {X : Type 0} → X → ℕ → X → Fact X
link_fact a p b = record { owner = a; prop = p; holds = Held.object b }

-- the claim that something stands in a slot
abbrev pub slot_claim : {X : Type 0} → X → ℕ → Held X → Claim X
slot_claim a p h = record { spot = Spot.slot a p; said = Said.element h }

-- the claim that a part has a container by a property
abbrev pub container_claim : {X : Type 0} → X → X → ℕ → Claim X
container_claim part whole p = record { spot = Spot.container part; said = Said.within whole p }

module _ {X : Type 0} (meta : MetaDesc) where
  -- ---- those that a fact has

  pub own_there : (f : Fact X) → Contains (claims_of meta f) (slot_claim f.owner f.prop f.holds)
  own_there f = contains_first (slot_claim f.owner f.prop f.holds) (far_claims meta f.owner f.prop f.holds)

  far_there : (f : Fact X) (b : X) (c : Claim X) → f.holds ≡ Held.object b → Contains (far_claims meta f.owner f.prop (Held.object b)) c
      → Contains (claims_of meta f) c
  far_there f b c is there =
      contains_later c (slot_claim f.owner f.prop f.holds) (far_claims meta f.owner f.prop f.holds)
      (subst (λ h. Contains (far_claims meta f.owner f.prop h) c) (sym is) there)

  opposite_there : (f : Fact X) (b : X) (q : ℕ) (c : Claim X) → f.holds ≡ Held.object b → opposite_of meta f.prop ≡ Some q
      → Contains (opposite_claims meta f.owner b (Some q)) c
      → Contains (claims_of meta f) c
  opposite_there f b q c is opposite there =
      far_there f b c is
      (Contains-append_left (opposite_claims meta f.owner b (opposite_of meta f.prop)) (part_claim (prop_at meta f.prop).composite b f.owner f.prop) c
      (subst (λ o. Contains (opposite_claims meta f.owner b o) c) (sym opposite) there))

  pub back_there : (f : Fact X) (b : X) (q : ℕ) → f.holds ≡ Held.object b → opposite_of meta f.prop ≡ Some q
      → Contains (claims_of meta f) (slot_claim b q (Held.object f.owner))
  back_there f b q is opposite =
      opposite_there f b q (slot_claim b q (Held.object f.owner)) is opposite
      (contains_first (slot_claim b q (Held.object f.owner)) (part_claim (prop_at meta q).composite f.owner b q))

  part_there : (part whole : X) (p : ℕ) → (prop_at meta p).composite ≡ true
      → Contains (part_claim (prop_at meta p).composite part whole p) (container_claim part whole p)
  part_there part whole p is = subst (λ t. Contains (part_claim t part whole p) (container_claim part whole p)) (sym is)
      (contains_first (container_claim part whole p) [])

  pub back_part_there : (f : Fact X) (b : X) (q : ℕ) → f.holds ≡ Held.object b → opposite_of meta f.prop ≡ Some q → (prop_at meta q).composite ≡ true
      → Contains (claims_of meta f) (container_claim f.owner b q)
  back_part_there f b q is opposite composite =
      opposite_there f b q (container_claim f.owner b q) is opposite
      (contains_later (container_claim f.owner b q) (slot_claim b q (Held.object f.owner)) (part_claim (prop_at meta q).composite f.owner b q)
      (part_there f.owner b q composite))

  pub own_part_there : (f : Fact X) (b : X) → f.holds ≡ Held.object b → (prop_at meta f.prop).composite ≡ true
      → Contains (claims_of meta f) (container_claim b f.owner f.prop)
  own_part_there f b is composite =
      far_there f b (container_claim b f.owner f.prop) is
      (Contains-append_right (opposite_claims meta f.owner b (opposite_of meta f.prop)) (part_claim (prop_at meta f.prop).composite b f.owner f.prop)
      (container_claim b f.owner f.prop)
      (part_there b f.owner f.prop composite))

  -- ---- and no others

  pub data ClaimCase (f : Fact X) (c : Claim X) : Type 0 where
    own : c ≡ slot_claim f.owner f.prop f.holds → ClaimCase f c
    back : (b : X) (q : ℕ) → f.holds ≡ Held.object b → opposite_of meta f.prop ≡ Some q → c ≡ slot_claim b q (Held.object f.owner) → ClaimCase f c
    back_part : (b : X) (q : ℕ) → f.holds ≡ Held.object b → opposite_of meta f.prop ≡ Some q → (prop_at meta q).composite ≡ true
        → c ≡ container_claim f.owner b q → ClaimCase f c
    own_part : (b : X) → f.holds ≡ Held.object b → (prop_at meta f.prop).composite ≡ true → c ≡ container_claim b f.owner f.prop → ClaimCase f c

  part_from : (part whole : X) (p : ℕ) (c : Claim X) → Contains (part_claim (prop_at meta p).composite part whole p) c
      → ((prop_at meta p).composite ≡ true) × (c ≡ container_claim part whole p)
  part_from part whole p c there = by (prop_at meta p).composite refl there
    where
      by : (t : Bool) → (prop_at meta p).composite ≡ t → Contains (part_claim t part whole p) c
          → ((prop_at meta p).composite ≡ true) × (c ≡ container_claim part whole p)
      by true is d = (is, sym (only_one (container_claim part whole p) c d))
      by false is d = absurd (nothing_in c d)

  opposite_from : (f : Fact X) (b : X) (c : Claim X) → f.holds ≡ Held.object b → Contains (opposite_claims meta f.owner b (opposite_of meta f.prop)) c
      → ClaimCase f c
  opposite_from f b c is there = by (opposite_of meta f.prop) refl there
    where
      by : (o : Option ℕ) → opposite_of meta f.prop ≡ o → Contains (opposite_claims meta f.owner b o) c → ClaimCase f c
      by None opposite d = absurd (nothing_in c d)
      by (Some q) opposite d = elim (here_or_later (slot_claim b q (Held.object f.owner)) c (part_claim (prop_at meta q).composite f.owner b q) d) [
        | inl same ↦ ClaimCase.back b q is opposite (sym same)
        | inr later ↦ (let (composite, same) = part_from f.owner b q c later in ClaimCase.back_part b q is opposite composite same)
      ]

  pub claim_case : (f : Fact X) (c : Claim X) → Contains (claims_of meta f) c → ClaimCase f c
  claim_case f c there = elim (here_or_later (slot_claim f.owner f.prop f.holds) c (far_claims meta f.owner f.prop f.holds) there) [
    | inl same ↦ ClaimCase.own (sym same)
    | inr later ↦ by f.holds refl later
  ]
    where
      by : (h : Held X) → f.holds ≡ h → Contains (far_claims meta f.owner f.prop h) c → ClaimCase f c
      by (Held.datum d) is later = absurd (nothing_in c later)
      by (Held.object b) is later =
          elim (Contains-append_cases (opposite_claims meta f.owner b (opposite_of meta f.prop))
          (part_claim (prop_at meta f.prop).composite b f.owner f.prop) c later) [
            | inl far ↦ opposite_from f b c is far
            | inr part ↦ (let (composite, same) = part_from b f.owner f.prop c part in ClaimCase.own_part b is composite same)
          ]

  -- ---- of one kind of place

  -- what stands in a slot: what the fact says of its own one, or of the one at the other end
  pub data SlotCase (f : Fact X) (a : X) (p : ℕ) (h : Held X) : Type 0 where
    own : f.owner ≡ a → f.prop ≡ p → f.holds ≡ h → SlotCase f a p h
    back : f.holds ≡ Held.object a → opposite_of meta f.prop ≡ Some p → h ≡ Held.object f.owner → SlotCase f a p h

  slots_one : (a b : X) (p q : ℕ) (h i : Held X) → slot_claim a p h ≡ slot_claim b q i → (a ≡ b) × (p ≡ q) × (h ≡ i)
  slots_one a b p q h i same =
      let spots : Spot.slot a p ≡ Spot.slot b q = ap (λ (c : Claim X). c.spot) same in
      let sayings : Said.element h ≡ Said.element i = ap (λ (c : Claim X). c.said) same in
      (cc, cc, cc)

  containers_one : (a b x y : X) (p q : ℕ) → container_claim a x p ≡ container_claim b y q → (a ≡ b) × (x ≡ y) × (p ≡ q)
  containers_one a b x y p q same =
      let spots : Spot.container a ≡ Spot.container b = ap (λ (c : Claim X). c.spot) same in
      let sayings : Said.within x p ≡ Said.within y q = ap (λ (c : Claim X). c.said) same in
      (cc, cc, cc)

  no_container : (a b x : X) (p q : ℕ) (h : Held X) → slot_claim a p h ≡ container_claim b x q → ⊥
  no_container a b x p q h same = let spots : Spot.slot a p ≡ Spot.container b = ap (λ (c : Claim X). c.spot) same in cc

  pub slot_case : (f : Fact X) (a : X) (p : ℕ) (h : Held X) → Contains (claims_of meta f) (slot_claim a p h) → SlotCase f a p h
  slot_case f a p h there = by (claim_case f (slot_claim a p h) there)
    where
      by : ClaimCase f (slot_claim a p h) → SlotCase f a p h
      by (ClaimCase.own same) = let one = slots_one a f.owner p f.prop h f.holds same in SlotCase.own (sym one.0) (sym one.1) (sym one.2)
      by (ClaimCase.back b q is opposite same) =
          let one = slots_one a b p q h (Held.object f.owner) same in
          SlotCase.back (is ∙ ap (λ z. Held.object z) (sym one.0)) (opposite ∙ ap (λ r. Some r) (sym one.1)) one.2
      by (ClaimCase.back_part b q is opposite composite same) = absurd (no_container a f.owner b p q h same)
      by (ClaimCase.own_part b is composite same) = absurd (no_container a b f.owner p f.prop h same)

  -- which container a part has: by the fact's own property, or by the one at the other end
  pub data PartCase (f : Fact X) (part whole : X) (p : ℕ) : Type 0 where
    own : f.owner ≡ whole → f.prop ≡ p → f.holds ≡ Held.object part → PartCase f part whole p
    back : f.owner ≡ part → f.holds ≡ Held.object whole → opposite_of meta f.prop ≡ Some p → PartCase f part whole p

  pub part_composite : (f : Fact X) (part whole : X) (p : ℕ) → Contains (claims_of meta f) (container_claim part whole p)
      → ((prop_at meta p).composite ≡ true) × PartCase f part whole p
  part_composite f part whole p there = by (claim_case f (container_claim part whole p) there)
    where
      by : ClaimCase f (container_claim part whole p) → ((prop_at meta p).composite ≡ true) × PartCase f part whole p
      by (ClaimCase.own same) = absurd (no_container f.owner part whole f.prop p f.holds (sym same))
      by (ClaimCase.back b q is opposite same) = absurd (no_container b part whole q p (Held.object f.owner) (sym same))
      by (ClaimCase.back_part b q is opposite composite same) =
          let one = containers_one part f.owner whole b p q same in (
            ap (λ r. (prop_at meta r).composite) one.2 ∙ composite,
            PartCase.back (sym one.0) (is ∙ ap (λ z. Held.object z) (sym one.1)) (opposite ∙ ap (λ r. Some r) (sym one.2)),
          )
      by (ClaimCase.own_part b is composite same) =
          let one = containers_one part b whole f.owner p f.prop same in
          (ap (λ r. (prop_at meta r).composite) one.2 ∙ composite, PartCase.own (sym one.1) (sym one.2) (is ∙ ap (λ z. Held.object z) (sym one.0)))

  -- ---- both ends of a link claim the same

  pub turned : (a b : X) (p q : ℕ) (c : Claim X) → opposite_of meta p ≡ Some q → opposite_of meta q ≡ Some p
      → Contains (claims_of meta (link_fact b q a)) c → Contains (claims_of meta (link_fact a p b)) c
  turned a b p q c there opposite_back has = by (claim_case (link_fact b q a) c has)
    where
      by : ClaimCase (link_fact b q a) c → Contains (claims_of meta (link_fact a p b)) c
      by (ClaimCase.own same) = subst (Contains (claims_of meta (link_fact a p b))) (sym same) (back_there (link_fact a p b) b q refl there)
      by (ClaimCase.back x r is opposite same) =
          let object : a ≡ x = cc in
          let prop : p ≡ r = (let one : Some p ≡ Some r = sym opposite_back ∙ opposite in cc) in
          subst (Contains (claims_of meta (link_fact a p b)))
          (ap (λ z. slot_claim z p (Held.object b)) object ∙ ap (λ s. slot_claim x s (Held.object b)) prop ∙ sym same) (own_there (link_fact a p b))
      by (ClaimCase.back_part x r is opposite composite same) =
          let object : a ≡ x = cc in
          let prop : p ≡ r = (let one : Some p ≡ Some r = sym opposite_back ∙ opposite in cc) in
          subst (Contains (claims_of meta (link_fact a p b)))
          (ap (λ z. container_claim b z p) object ∙ ap (λ s. container_claim b x s) prop ∙ sym same)
          (own_part_there (link_fact a p b) b refl (ap (λ s. (prop_at meta s).composite) prop ∙ composite))
      by (ClaimCase.own_part x is composite same) =
          let object : a ≡ x = cc in
          subst (Contains (claims_of meta (link_fact a p b))) (ap (λ z. container_claim z b q) object ∙ sym same)
          (back_part_there (link_fact a p b) b q refl there composite)
