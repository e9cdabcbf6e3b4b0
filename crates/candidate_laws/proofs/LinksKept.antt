-- Links of the model that enforcement makes: they have two ends, and a part has one container.
use Rattle.std.specs.Prelude.{◌≡◌, ◌⊎◌, ◌<◌, ◌&&◌, ◌==◌, not, ℕ, Bool, true, false, List, Some, Contains}
use Rattle.std.specs.List.{list_any}
use Rattle.std.proofs.Common.{refl, ap, sym, ◌∙◌, inl, inr, true≢false}
use Rattle.std.proofs.lemmas.Bool.{and_parts, eqb-true, eq-eqb}
use Rattle.mof_metamodel.specs.declared.desc.MetaDesc.{MetaDesc}
use Rattle.mof_metamodel.specs.Metamodels.{class_count, props_of, prop_at, opposite_of, owner_of, Conforms}
use Rattle.mof_metamodel.proofs.MetaLaws.{has_exactly}
use Rattle.mof_metamodel.proofs.PropLemmas.{prop_known}
use Rattle.mof_metamodel.proofs.ReachLemmas.{conforms_through}
use Rattle.object_tables.specs.Models.{ModelData, IsLinked, IsContainedIn}
use Rattle.object_tables.proofs.InheritLemmas.{pair_of_opposites}
use Rattle.object_tables.proofs.KeptLemmas.{sound_of, linked_reference}
use Rattle.qv_syntax.specs.declared.program.Program.{Program}
use Rattle.template_match.proofs.ListLaws.{any_at}
use Rattle.repair_semantics.specs.declared.term.Term.{out-Term}
use Rattle.repair_semantics.specs.declared.demand.Demand.{Demand}
use Rattle.repair_semantics.specs.Claims.{Held, Fact, Claim, claims_of, is_single_spot, same_said, are_against, is_against}
use Rattle.repair_semantics.specs.Images.{same_number}
use Rattle.repair_semantics.specs.Candidates.{fact_at, candidate}
use Rattle.candidate_laws.specs.Placing.{Placeable}
use Rattle.candidate_laws.specs.Parts.{IsClaimedIn, IsKeptIn, demanded_claims}
use Rattle.candidate_laws.proofs.Lists.{none_passes}
use Rattle.candidate_laws.proofs.Contents.{contents_from, contents_kept, contents_claimed}
use Rattle.candidate_laws.proofs.Numbers.{object_of_term}
use Rattle.candidate_laws.proofs.FactClaims.{container_claim, own_part_there, turned}
use Rattle.candidate_laws.proofs.DemandClaims.{claimed_back, claimed_part, claimed_pair, claimed_containers}
use Rattle.candidate_laws.proofs.MadeSlots.{held_object, link_held, still, stays_there, IsHeldLink, link_from, link_to}

-- ---- claims that are not against what is kept

module _ (meta : MetaDesc) (claims : List (Claim ℕ)) where
  apart_from : (f : Fact ℕ) (c d : Claim ℕ) → is_against meta same_number claims f ≡ false → Contains (claims_of meta f) c → Contains claims d
      → are_against meta same_number c d ≡ false
  apart_from f c d free of_fact claimed = by (are_against meta same_number c d) refl
    where
      by : (b : Bool) → are_against meta same_number c d ≡ b → b ≡ false
      by false is = refl
      by true is =
          let one : list_any (are_against meta same_number c) claims ≡ true = any_at (are_against meta same_number c) claims d is claimed in
          absurd (true≢false (sym (any_at (λ e. list_any (are_against meta same_number e) claims) (claims_of meta f) c one of_fact) ∙ free))

  -- a fact whose claims another one has is not against more
  free_too : (f g : Fact ℕ) → ((c : Claim ℕ) → Contains (claims_of meta g) c → Contains (claims_of meta f) c)
      → is_against meta same_number claims f ≡ false → is_against meta same_number claims g ≡ false
  free_too f g within free =
      none_passes (λ c. list_any (are_against meta same_number c) claims) (claims_of meta g)
      (λ c there. none_passes (are_against meta same_number c) claims (λ d claimed. apart_from f c d free (within c there) claimed))

module _ (program : Program) (m : ModelData) (demands : List Demand) (placeable : Placeable program m demands) where
  -- the object of a term has the properties of the term's class
  inherited : (c d p : ℕ) → c < class_count m.meta → d < class_count m.meta → Conforms m.meta c d → Contains (props_of m.meta d) p
      → Contains (props_of m.meta c) p
  inherited c d p known known_too up has =
      let within = prop_known m.meta d p has in
      (has_exactly m.meta c known p within).1 (conforms_through m.meta c d (owner_of m.meta p) up ((has_exactly m.meta d known_too p within).0 has))

  -- ---- both ends of a link

  pub one_way : (p q a b : ℕ) → opposite_of m.meta p ≡ Some q → IsLinked (candidate program m demands) p a b
      → IsLinked (candidate program m demands) q b a
  one_way p q a b opposite linked =
      let link = link_from program m demands placeable p a b linked in
      elim (contents_from program m demands a p (Held.object b) link.within) [ inl kept ↦ of_kept link kept | inr claimed ↦ of_claimed claimed ]
    where
      back : opposite_of m.meta q ≡ Some p
      back = (pair_of_opposites m.meta p q placeable.kept.well opposite).back

      of_kept : IsHeldLink program m demands placeable p a b → IsKeptIn program m demands a p (Held.object b)
          → IsLinked (candidate program m demands) q b a
      of_kept link k =
          let sound = sound_of m placeable.kept in
          let was : IsLinked m p a b = (held_object program m a p b k.held).1 in
          let turned_was : IsLinked m q b a = (placeable.kept.opposites p q a b opposite).0 was in
          let near = linked_reference m p a b sound was in
          let far = linked_reference m q b a sound turned_was in
          let kept_back : IsKeptIn program m demands b q (Held.object a) = record {
            held = link_held program m b q a far.reference turned_was;
            left = stays_there program m demands placeable a link.class near.class link.class_is near.class_is;
            unopposed = free_too m.meta (demanded_claims program m demands) (fact_at a p (Held.object b)) (fact_at b q (Held.object a))
                (λ c. turned m.meta a b p q c opposite back) k.unopposed;
          } in
          link_to program m demands placeable q b a far.class (still program m demands placeable b far.class far.class_is k.left) far.has
          (contents_kept program m demands b q (Held.object a) kept_back)

      of_claimed : IsClaimedIn program m demands a p (Held.object b) → IsLinked (candidate program m demands) q b a
      of_claimed k =
          let turned_claim = claimed_back program m demands placeable p q a b opposite k in
          let pair = claimed_pair program m demands placeable b q a turned_claim in
          let object = object_of_term program m demands placeable pair.near b pair.near_there pair.near_is in
          link_to program m demands placeable q b a object.class object.class_is
          (inherited object.class (out-Term pair.near).class.0 q object.known
          (placeable.concrete pair.near pair.near_there).known object.conforms pair.has)
          (contents_claimed program m demands b q (Held.object a) turned_claim)

  -- ---- containers

  number_itself : (n : ℕ) → same_number n n ≡ true
  number_itself n = eq-eqb n n refl

  same_container : (o a b p q : ℕ) → are_against m.meta same_number (container_claim o a p) (container_claim o b q) ≡ false → (a ≡ b) × (p ≡ q)
  same_container o a b p q free = by (same_number a b && (p == q)) refl
    where
      by : (t : Bool) → (same_number a b && (p == q)) ≡ t → (a ≡ b) × (p ≡ q)
      by true is = let parts = and_parts (same_number a b) (p == q) is in (eqb-true a b parts.0, eqb-true p q parts.1)
      by false is =
          let c : Claim ℕ = container_claim o a p in
          let d : Claim ℕ = container_claim o b q in
          let against : are_against m.meta same_number c d ≡ true =
          ap (λ s. s && is_single_spot m.meta c.spot && not (same_said same_number c.said d.said)) (number_itself o) ∙ ap not is in
          absurd (true≢false (sym against ∙ free))

  -- a container that is claimed is that of a part that is kept
  kept_container : (o a b p q : ℕ) → (prop_at m.meta p).composite ≡ true → (prop_at m.meta q).composite ≡ true
      → IsKeptIn program m demands a p (Held.object o) → IsClaimedIn program m demands b q (Held.object o)
      → (a ≡ b) × (p ≡ q)
  kept_container o a b p q composite composite_too kept claimed =
      same_container o a b p q
      (apart_from m.meta (demanded_claims program m demands) (fact_at a p (Held.object o)) (container_claim o a p)
      (container_claim o b q) kept.unopposed
      (own_part_there m.meta (fact_at a p (Held.object o)) o refl composite) (claimed_part program m demands placeable q b o composite_too claimed))

  pub one_container : (o a b p q : ℕ) → IsContainedIn (candidate program m demands) o a p → IsContainedIn (candidate program m demands) o b q
      → (a ≡ b) × (p ≡ q)
  one_container o a b p q first second =
      let near = link_from program m demands placeable p a o first.linked in
      let far = link_from program m demands placeable q b o second.linked in
      by (contents_from program m demands a p (Held.object o) near.within) (contents_from program m demands b q (Held.object o) far.within)
    where
      by : IsKeptIn program m demands a p (Held.object o) ⊎ IsClaimedIn program m demands a p (Held.object o)
          → IsKeptIn program m demands b q (Held.object o) ⊎ IsClaimedIn program m demands b q (Held.object o) → (a ≡ b) × (p ≡ q)
      by (inl kept) (inl other) =
          let was : IsContainedIn m o a p = record { composite = first.composite; linked = (held_object program m a p o kept.held).1 } in
          let was_too : IsContainedIn m o b q = record { composite = second.composite; linked = (held_object program m b q o other.held).1 } in
          placeable.kept.containers o a b p q was was_too
      by (inl kept) (inr claimed) = kept_container o a b p q first.composite second.composite kept claimed
      by (inr claimed) (inl kept) = let one = kept_container o b a q p second.composite first.composite kept claimed in (sym one.0, sym one.1)
      by (inr claimed) (inr other) =
          claimed_containers program m demands placeable o a b p q (claimed_part program m demands placeable p a o first.composite claimed)
          (claimed_part program m demands placeable q b o second.composite other)
