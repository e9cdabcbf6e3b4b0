-- What demands claim by numbers: of both ends of a link the same, of a slot what may stand there, and of a part one container.
use Rattle.std.specs.Prelude.{◌≡◌, ◌<◌, ℕ, Bool, true, false, ◌&&◌, not, ◌==◌, List, [], Option, None, Some, slice_get, Contains}
use Rattle.std.specs.List.{filter_map, flat_map}
use Rattle.std.specs.Option.{option_map, option_and_then, option_to_list}
use Rattle.std.specs.Ordering.{is_eq}
use Rattle.std.specs.declared.cmp.Ordering.TheVariants.{Equal}
use Rattle.std.proofs.Common.{refl, ap, sym, ◌∙◌, subst, arith, inl, inr}
use Rattle.std.proofs.lemmas.Bool.{cases_lt, and_parts, eqb-true}
use Rattle.std.proofs.lemmas.Option.{none-some, same_Some, slice_get-get_or}
use Rattle.mof_metamodel.specs.Metamodels.{prop_at, props_of, type_of, opposite_of}
use Rattle.mof_metamodel.proofs.Facts.{contains_first}
use Rattle.mof_metamodel.proofs.PropLemmas.{from_flat_map, to_flat_map}
use Rattle.object_tables.specs.Models.{ModelData, is_class_type, ConformsTo}
use Rattle.object_tables.proofs.InheritLemmas.{pair_of_opposites}
use Rattle.template_match.proofs.ListLaws.{contains_later}
use Rattle.qv_syntax.specs.declared.program.Program.{Program}
use Rattle.qvtr_semantics.specs.declared.datum.Datum.{Datum}
use Rattle.repair_semantics.specs.declared.term.Term.{Term, out-Term}
use Rattle.repair_semantics.specs.declared.term.TermValue.{TermValue, out-TermValue}
use Rattle.repair_semantics.specs.declared.term.TermValue.TheOpen as of
use Rattle.repair_semantics.specs.declared.demand.Demand.{Demand}
use Rattle.repair_semantics.specs.Terms.{term_in, datum_in, term_part, datum_part, same_term, term_order}
use Rattle.repair_semantics.specs.Demands.{terms_in, demanded_terms}
use Rattle.repair_semantics.specs.Claims.{Held, Fact, Claim, claims_of, is_single_spot, same_said, are_against}
use Rattle.repair_semantics.specs.Conflicts.{held_in, fact_of}
use Rattle.repair_semantics.specs.Candidates.{held_by_number, fact_by_number}
use Rattle.repair_semantics.proofs.TieLaws.{ties_are_one}
use Rattle.candidate_laws.specs.Placing.{IsAttributeFor, Placeable}
use Rattle.candidate_laws.specs.Parts.{IsClaimedIn, IsPair, demanded_number, demanded_claims}
use Rattle.candidate_laws.proofs.Lists.{from_filter_map, in_filter_map}
use Rattle.candidate_laws.proofs.Orders.{once_has}
use Rattle.candidate_laws.proofs.FactClaims.{slot_claim, container_claim, own_there, back_there, own_part_there, back_part_there, SlotCase, slot_case, PartCase, part_composite}
use Rattle.candidate_laws.proofs.Numbers.{numbers_apart}

-- ---- values of demands as they are held

value_term : (v : TermValue) (t : Term) → held_in (out-TermValue v) ≡ Held.object t → term_in v ≡ Some t
value_term v t h = by (out-TermValue v) h
  where
    by : (l : of.TermValue-F TermValue Term) → held_in l ≡ Held.object t → term_part l ≡ Some t
    by (of.Val d) e = absurd (cc)
    by (of.Term u) e = let same : u ≡ t = cc in ap (λ z. Some z) same

value_datum : (v : TermValue) (d : Datum) → held_in (out-TermValue v) ≡ Held.datum d → datum_in v ≡ Some d
value_datum v d h = by (out-TermValue v) h
  where
    by : (l : of.TermValue-F TermValue Term) → held_in l ≡ Held.datum d → datum_part l ≡ Some d
    by (of.Val e) g = let same : e ≡ d = cc in ap (λ z. Some z) same
    by (of.Term u) g = absurd (cc)

module _ (number : Term → Option ℕ) where
  numbered_object : (h : Held Term) (n : ℕ) → held_by_number number h ≡ Some (Held.object n) → (t : Term) × (h ≡ Held.object t) × (number t ≡ Some n)
  numbered_object (Held.datum d) n e = absurd (cc)
  numbered_object (Held.object t) n e = by (number t) refl e
    where
      by : (o : Option ℕ) → number t ≡ o → option_map (λ k. Held.object k) o ≡ Some (Held.object n)
          → (u : Term) × (Held.object t ≡ Held.object u) × (number u ≡ Some n)
      by None is g = absurd (cc)
      by (Some k) is g = (t, refl, is ∙ (let one : k ≡ n = cc in ap (λ z. Some z) one))

  numbered_datum : (h : Held Term) (d : Datum) → held_by_number number h ≡ Some (Held.datum d) → h ≡ Held.datum d
  numbered_datum (Held.datum e) d g = let one : e ≡ d = cc in ap (λ z. Held.datum z) one
  numbered_datum (Held.object t) d g = by (number t) g
    where
      by : (o : Option ℕ) → option_map (λ k. Held.object k) o ≡ Some (Held.datum d) → Held.object t ≡ Held.datum d
      by None e = absurd (cc)
      by (Some k) e = absurd (cc)

-- ---- demanded terms

tied : (t u : Term) → term_order t u ≡ Equal → t ≡ u
tied t u e = (ties_are_one t u).0 (ap is_eq e)

pub owner_demanded : (demands : List Demand) (d : Demand) → Contains demands d → Contains (demanded_terms demands) d.owner
owner_demanded demands d there =
    once_has term_order tied (flat_map terms_in demands) d.owner
    (to_flat_map terms_in demands d d.owner there (contains_first d.owner (option_to_list (term_in d.value))))

pub value_demanded : (demands : List Demand) (d : Demand) (t : Term) → Contains demands d → term_in d.value ≡ Some t
    → Contains (demanded_terms demands) t
value_demanded demands d t there is =
    once_has term_order tied (flat_map terms_in demands) t
    (to_flat_map terms_in demands d t there
    (contains_later t d.owner (option_to_list (term_in d.value))
    (subst (λ (o : Option Term). Contains (option_to_list o) t) (sym is) (contains_first t []))))

-- what a demand says by numbers, where its objects have any
abbrev demanded_fact : Program → ModelData → List Demand → Demand → Option (Fact ℕ)
demanded_fact program m demands d = fact_by_number (demanded_number program m demands) (fact_of d)

abbrev demanded_facts : Program → ModelData → List Demand → List (Fact ℕ)
demanded_facts program m demands = filter_map (demanded_fact program m demands) demands

module _ (program : Program) (m : ModelData) (demands : List Demand) (placeable : Placeable program m demands) where
  -- ---- facts by numbers

  -- a demand says this by numbers
  record IsStated (f : Fact ℕ) : Type 0 where
    demand : Demand
    there : Contains demands demand
    owner : demanded_number program m demands demand.owner ≡ Some f.owner
    prop : demand.prop.0 ≡ f.prop
    holds : held_by_number (demanded_number program m demands) (fact_of demand).holds ≡ Some f.holds
    is : demanded_fact program m demands demand ≡ Some f

  stated : (d : Demand) (f : Fact ℕ) → Contains demands d → demanded_fact program m demands d ≡ Some f → IsStated f
  stated d f there h = by (demanded_number program m demands d.owner) refl
      (held_by_number (demanded_number program m demands) (fact_of d).holds) refl h
    where
      by : (o : Option ℕ) → demanded_number program m demands d.owner ≡ o → (x : Option (Held ℕ))
          → held_by_number (demanded_number program m demands) (fact_of d).holds ≡ x
          → option_and_then (λ n. option_map (λ (i : Held ℕ). record { owner = n; prop = d.prop.0; holds = i }) x) o ≡ Some f → IsStated f
      by None owns x holds e = absurd (none-some f e)
      by (Some n) owns None holds e = absurd (none-some f e)
      by (Some n) owns (Some i) holds e =
          let same : record { owner = n; prop = d.prop.0; holds = i } ≡ f = same_Some (record { owner = n; prop = d.prop.0; holds = i }) f e in
          record {
            demand = d;
            there = there;
            owner = owns ∙ ap (λ (g : Fact ℕ). Some g.owner) same;
            prop = ap (λ (g : Fact ℕ). g.prop) same;
            holds = holds ∙ ap (λ (g : Fact ℕ). Some g.holds) same;
            is = h;
          }

  claims_from : (c : Claim ℕ) → Contains (demanded_claims program m demands) c → (f : Fact ℕ) × IsStated f × Contains (claims_of m.meta f) c
  claims_from c has =
      let (f, listed, within) = from_flat_map (claims_of m.meta) (demanded_facts program m demands) c has in
      let (d, there, is) = from_filter_map (demanded_fact program m demands) demands f listed in
      (f, stated d f there is, within)

  in_claims : (f : Fact ℕ) (c : Claim ℕ) → IsStated f → Contains (claims_of m.meta f) c → Contains (demanded_claims program m demands) c
  in_claims f c s within = to_flat_map (claims_of m.meta) (demanded_facts program m demands) f c
      (in_filter_map (demanded_fact program m demands) demands s.demand f s.there s.is) within

  -- ---- of both ends of a link the same

  -- what is claimed at one end of a link is claimed at the other
  pub claimed_back : (p q a b : ℕ) → opposite_of m.meta p ≡ Some q → IsClaimedIn program m demands a p (Held.object b)
      → IsClaimedIn program m demands b q (Held.object a)
  claimed_back p q a b opposite has =
      let (f, s, within) = claims_from (slot_claim a p (Held.object b)) has in
      by f s (slot_case m.meta f a p (Held.object b) within)
    where
      by : (f : Fact ℕ) → IsStated f → SlotCase m.meta f a p (Held.object b) → IsClaimedIn program m demands b q (Held.object a)
      by f s (SlotCase.own owner prop holds) =
          subst (λ z. Contains (demanded_claims program m demands) (slot_claim b q (Held.object z))) owner
          (in_claims f (slot_claim b q (Held.object f.owner)) s (back_there m.meta f b q holds (ap (opposite_of m.meta) prop ∙ opposite)))
      by f s (SlotCase.back holds far is) =
          let object : f.owner ≡ b = cc in
          let prop : f.prop ≡ q = same_Some f.prop q (sym (pair_of_opposites m.meta f.prop p placeable.kept.well far).back ∙ opposite) in
          subst (Contains (demanded_claims program m demands))
          (ap (λ z. slot_claim z f.prop f.holds) object ∙ ap (λ z. slot_claim b z f.holds) prop ∙ ap (λ z. slot_claim b q z) holds)
          (in_claims f (slot_claim f.owner f.prop f.holds) s (own_there m.meta f))

  -- a part that is claimed by a composite property has this container claimed
  pub claimed_part : (p a b : ℕ) → (prop_at m.meta p).composite ≡ true → IsClaimedIn program m demands a p (Held.object b)
      → Contains (demanded_claims program m demands) (container_claim b a p)
  claimed_part p a b composite has =
      let (f, s, within) = claims_from (slot_claim a p (Held.object b)) has in
      by f s (slot_case m.meta f a p (Held.object b) within)
    where
      by : (f : Fact ℕ) → IsStated f → SlotCase m.meta f a p (Held.object b) → Contains (demanded_claims program m demands) (container_claim b a p)
      by f s (SlotCase.own owner prop holds) =
          subst (Contains (demanded_claims program m demands)) (ap (λ z. container_claim b z f.prop) owner ∙ ap (λ z. container_claim b a z) prop)
          (in_claims f (container_claim b f.owner f.prop) s
          (own_part_there m.meta f b holds (ap (λ z. (prop_at m.meta z).composite) prop ∙ composite)))
      by f s (SlotCase.back holds far is) =
          let object : f.owner ≡ b = cc in
          subst (λ z. Contains (demanded_claims program m demands) (container_claim z a p)) object
          (in_claims f (container_claim f.owner a p) s (back_part_there m.meta f a p holds far composite))

  -- ---- what is claimed may stand there

  pub claimed_pair : (a p b : ℕ) → IsClaimedIn program m demands a p (Held.object b) → IsPair program m demands a p b
  claimed_pair a p b has =
      let (f, s, within) = claims_from (slot_claim a p (Held.object b)) has in
      by f s (slot_case m.meta f a p (Held.object b) within)
    where
      by : (f : Fact ℕ) → IsStated f → SlotCase m.meta f a p (Held.object b) → IsPair program m demands a p b
      by f s (SlotCase.own owner prop holds) =
          let (u, held, at) = numbered_object (demanded_number program m demands) (fact_of s.demand).holds b (s.holds ∙ ap (λ z. Some z) holds) in
          let is : term_in s.demand.value ≡ Some u = value_term s.demand.value u held in
          let can = placeable.stand s.demand s.there in
          let same : s.demand.prop.0 ≡ p = s.prop ∙ prop in
          record {
            near = s.demand.owner;
            far = u;
            near_there = owner_demanded demands s.demand s.there;
            far_there = value_demanded demands s.demand u s.there is;
            near_is = s.owner ∙ ap (λ z. Some z) owner;
            far_is = at;
            has = subst (Contains (props_of m.meta (out-Term s.demand.owner).class.0)) same can.has;
            reference = ap (λ z. is_class_type (type_of m.meta z)) (sym same) ∙ (can.object u is).reference;
            conforms = subst (λ z. ConformsTo m.meta (out-Term u).class.0 (type_of m.meta z)) same (can.object u is).conforms;
          }
      by f s (SlotCase.back holds opposite is) =
          let (t, held, at) = numbered_object (demanded_number program m demands) (fact_of s.demand).holds a (s.holds ∙ ap (λ z. Some z) holds) in
          let value : term_in s.demand.value ≡ Some t = value_term s.demand.value t held in
          let can = placeable.stand s.demand s.there in
          let there = value_demanded demands s.demand t s.there value in
          let owned = owner_demanded demands s.demand s.there in
          let object : f.owner ≡ b = cc in
          let pair = pair_of_opposites m.meta s.demand.prop.0 p placeable.kept.well (ap (opposite_of m.meta) s.prop ∙ opposite) in
          record {
            near = t;
            far = s.demand.owner;
            near_there = there;
            far_there = owned;
            near_is = at;
            far_is = s.owner ∙ ap (λ z. Some z) object;
            has = pair.near_has (out-Term t).class.0 (placeable.concrete t there).known (can.object t value).conforms;
            reference = pair.far_class;
            conforms = pair.far_fits (out-Term s.demand.owner).class.0 (placeable.concrete s.demand.owner owned).known can.has;
          }

  -- a datum that is claimed is a value that the attribute can hold
  pub claimed_value : (a p : ℕ) (x : Datum) → IsClaimedIn program m demands a p (Held.datum x) → IsAttributeFor program m.meta p x
  claimed_value a p x has =
      let (f, s, within) = claims_from (slot_claim a p (Held.datum x)) has in
      by f s (slot_case m.meta f a p (Held.datum x) within)
    where
      by : (f : Fact ℕ) → IsStated f → SlotCase m.meta f a p (Held.datum x) → IsAttributeFor program m.meta p x
      by f s (SlotCase.own owner prop holds) =
          let held = numbered_datum (demanded_number program m demands) (fact_of s.demand).holds x (s.holds ∙ ap (λ z. Some z) holds) in
          let is : datum_in s.demand.value ≡ Some x = value_datum s.demand.value x held in
          let can = placeable.stand s.demand s.there in
          subst (λ z. IsAttributeFor program m.meta z x) (s.prop ∙ prop) (can.datum x is)
      by f s (SlotCase.back holds opposite is) = absurd (cc)

  -- ---- of a part one container

  -- a container that is claimed is one that a demand claims of terms
  record IsPart (o a p : ℕ) : Type 0 where
    demand : Demand
    place : ℕ
    at : slice_get demands place ≡ Some demand
    part : Term
    whole : Term
    part_there : Contains (demanded_terms demands) part
    part_is : demanded_number program m demands part ≡ Some o
    whole_is : demanded_number program m demands whole ≡ Some a
    composite : (prop_at m.meta p).composite ≡ true
    claim : Contains (claims_of m.meta (fact_of demand)) (container_claim part whole p)

  claimed_container : (o a p : ℕ) → Contains (demanded_claims program m demands) (container_claim o a p) → IsPart o a p
  claimed_container o a p has =
      let (f, s, within) = claims_from (container_claim o a p) has in
      let (composite, case) = part_composite m.meta f o a p within in
      by f s composite case
    where
      place_of : (d : Demand) (c : Contains demands d) → slice_get demands c.0 ≡ Some d
      place_of d c = slice_get-get_or demands c.0 d c.1 ∙ ap (λ z. Some z) c.2

      by : (f : Fact ℕ) → IsStated f → (prop_at m.meta p).composite ≡ true → PartCase m.meta f o a p → IsPart o a p
      by f s composite (PartCase.own owner prop holds) =
          let (t, held, at) = numbered_object (demanded_number program m demands) (fact_of s.demand).holds o (s.holds ∙ ap (λ z. Some z) holds) in
          let same : s.demand.prop.0 ≡ p = s.prop ∙ prop in
          record {
            demand = s.demand;
            place = s.there.0;
            at = place_of s.demand s.there;
            part = t;
            whole = s.demand.owner;
            part_there = value_demanded demands s.demand t s.there (value_term s.demand.value t held);
            part_is = at;
            whole_is = s.owner ∙ ap (λ z. Some z) owner;
            composite = composite;
            claim = subst (λ z. Contains (claims_of m.meta (fact_of s.demand)) (container_claim t s.demand.owner z)) same
                (own_part_there m.meta (fact_of s.demand) t held (ap (λ z. (prop_at m.meta z).composite) same ∙ composite));
          }
      by f s composite (PartCase.back owner holds opposite) =
          let (u, held, at) = numbered_object (demanded_number program m demands) (fact_of s.demand).holds a (s.holds ∙ ap (λ z. Some z) holds) in
          record {
            demand = s.demand;
            place = s.there.0;
            at = place_of s.demand s.there;
            part = s.demand.owner;
            whole = u;
            part_there = owner_demanded demands s.demand s.there;
            part_is = s.owner ∙ ap (λ z. Some z) owner;
            whole_is = at;
            composite = composite;
            claim = back_part_there m.meta (fact_of s.demand) u p held (ap (opposite_of m.meta) s.prop ∙ opposite) composite;
          }

  one_whole : (o a b p q : ℕ) (x : IsPart o a p) (y : IsPart o b q) → x.whole ≡ y.whole → a ≡ b
  one_whole o a b p q x y same = same_Some a b (sym x.whole_is ∙ ap (demanded_number program m demands) same ∙ y.whole_is)

  -- two demands that claim containers of one part claim one
  earlier : (o a b p q : ℕ) (x : IsPart o a p) (y : IsPart o b q) → x.part ≡ y.part → x.place < y.place → (a ≡ b) × (p ≡ q)
  earlier o a b p q x y same before = by (same_term x.whole y.whole && (p == q)) refl
    where
      by : (t : Bool) → (same_term x.whole y.whole && (p == q)) ≡ t → (a ≡ b) × (p ≡ q)
      by true is =
          let parts = and_parts (same_term x.whole y.whole) (p == q) is in
          (one_whole o a b p q x y ((ties_are_one x.whole y.whole).0 parts.0), eqb-true p q parts.1)
      by false is =
          let tie : same_term x.part y.part ≡ true = (ties_are_one x.part y.part).1 same in
          let c : Claim Term = container_claim x.part x.whole p in
          let d : Claim Term = container_claim y.part y.whole q in
          let against : are_against m.meta same_term c d ≡ true =
          ap (λ s. s && is_single_spot m.meta c.spot && not (same_said same_term c.said d.said)) tie ∙ ap not is in
          absurd (placeable.peaceful x.demand y.demand c d (record {
            earlier = x.place;
            later = y.place;
            before = before;
            first_is = x.at;
            second_is = y.at;
            of_first = x.claim;
            of_second = y.claim;
            against = against;
          }))

  -- one demand claims one container of a part
  same_demand : (o a b p q : ℕ) (x : IsPart o a p) (y : IsPart o b q) → x.part ≡ y.part → x.place ≡ y.place → (a ≡ b) × (p ≡ q)
  same_demand o a b p q x y same places =
      let demands_one : x.demand ≡ y.demand = same_Some x.demand y.demand (sym x.at ∙ ap (slice_get demands) places ∙ y.at) in
      let first = part_composite m.meta (fact_of x.demand) x.part x.whole p x.claim in
      let second = part_composite m.meta (fact_of x.demand) y.part y.whole q
      (subst (λ d. Contains (claims_of m.meta (fact_of d)) (container_claim y.part y.whole q)) (sym demands_one) y.claim) in
      by first.1 second.1
    where
      by : PartCase m.meta (fact_of x.demand) x.part x.whole p → PartCase m.meta (fact_of x.demand) y.part y.whole q → (a ≡ b) × (p ≡ q)
      by (PartCase.own i j k) (PartCase.own u v w) = (one_whole o a b p q x y (sym i ∙ u), sym j ∙ v)
      by (PartCase.own i j k) (PartCase.back u v w) =
          absurd ((pair_of_opposites m.meta x.demand.prop.0 q placeable.kept.well w).one_whole
          (ap (λ z. (prop_at m.meta z).composite) j ∙ x.composite) y.composite)
      by (PartCase.back i j k) (PartCase.own u v w) =
          absurd ((pair_of_opposites m.meta x.demand.prop.0 p placeable.kept.well k).one_whole
          (ap (λ z. (prop_at m.meta z).composite) v ∙ y.composite) x.composite)
      by (PartCase.back i j k) (PartCase.back u v w) =
          let wholes : Held.object x.whole ≡ Held.object y.whole = sym j ∙ v in
          let whole : x.whole ≡ y.whole = cc in
          (one_whole o a b p q x y whole, same_Some p q (sym k ∙ w))

  -- no two containers of an object are claimed
  pub claimed_containers : (o a b p q : ℕ) → Contains (demanded_claims program m demands) (container_claim o a p)
      → Contains (demanded_claims program m demands) (container_claim o b q) → (a ≡ b) × (p ≡ q)
  claimed_containers o a b p q first second =
      let x = claimed_container o a p first in
      let y = claimed_container o b q second in
      let parts : x.part ≡ y.part = numbers_apart program m demands placeable x.part y.part o x.part_there y.part_there x.part_is y.part_is in
      elim (cases_lt x.place y.place) [
        | inl less ↦ earlier o a b p q x y parts less
        | inr le ↦ elim (cases_lt y.place x.place) [
          | inl more ↦ (let one = earlier o b a q p y x (sym parts) more in (sym one.0, sym one.1))
          | inr ge ↦ same_demand o a b p q x y parts (omega (arith, le, ge))
        ]
      ]
