-- Objects of the model that enforcement makes are of concrete classes, and no two have one identifier.
use Rattle.std.specs.Prelude.{◌≡◌, ◌<◌, ◌+◌, is_none, ℕ, List, [], length, Option, None, Some, Contains}
use Rattle.std.specs.Option.{option_map}
use Rattle.std.proofs.Common.{refl, ap, sym, ◌∙◌, subst, arith, get_or, true≢false}
use Rattle.std.proofs.lemmas.List.Elements.{Contains-get_or}
use Rattle.std.proofs.lemmas.Option.{none-some, same_Some}
use Rattle.mof_metamodel.specs.Characters.{is_identifier_text}
use Rattle.mof_metamodel.specs.Metamodels.{class_count, class_at as meta_class, props_of}
use Rattle.object_tables.specs.Objects.{Object}
use Rattle.object_tables.specs.Models.{ModelData, object_at, id_at}
use Rattle.object_tables.specs.Kept.{IsWellObject}
use Rattle.qv_syntax.specs.declared.program.Program.{Program}
use Rattle.repair_semantics.specs.declared.demand.Demand.{Demand}
use Rattle.repair_semantics.specs.Demands.{demanded_terms}
use Rattle.repair_semantics.specs.Images.{image}
use Rattle.repair_semantics.specs.CandidateObjects.{is_used}
use Rattle.repair_semantics.specs.Candidates.{candidate}
use Rattle.candidate_laws.specs.Placing.{Placeable}
use Rattle.candidate_laws.specs.Parts.{demanded_fresh, demanded_ids}
use Rattle.candidate_laws.proofs.Lists.{from_filter, one_place}
use Rattle.candidate_laws.proofs.IdentifierLaws.{used}
use Rattle.candidate_laws.proofs.FreshIds.{fresh_id_text, IsFreshId, fresh_id_of, ids_once}
use Rattle.candidate_laws.proofs.Made.{Origin}
use Rattle.candidate_laws.proofs.MadeSlots.{enough, Source, source, slotted}

module _ (program : Program) (m : ModelData) (demands : List Demand) (placeable : Placeable program m demands) where
  -- a fresh object has the identifier at its place
  place_within : (k : ℕ) → k < length (demanded_fresh program m demands) → k < length (demanded_ids program m demands)
  place_within k within = let many = enough program m demands placeable in omega (arith, many, within)

  -- what is known of it
  id_at_place : (k : ℕ) → k < length (demanded_ids program m demands)
      → IsFreshId m (length (demanded_fresh program m demands)) placeable.few (get_or (demanded_ids program m demands) k [])
  id_at_place k within =
      fresh_id_of m (length (demanded_fresh program m demands)) placeable.few (get_or (demanded_ids program m demands) k [])
      (Contains-get_or (demanded_ids program m demands) k [] within)

  pub well_object : (o : ℕ) (ob : Object) → object_at (candidate program m demands) o ≡ Some ob → IsWellObject m.meta ob
  well_object o ob h = by (source program m demands placeable o ob h)
    where
      long : length ob.slots ≡ length (props_of m.meta ob.class)
      long = slotted program m demands placeable o ob h

      by : Source program m demands placeable o ob → IsWellObject m.meta ob
      by (Origin.old there) =
          let w = placeable.kept.objects o there.was there.was_is in
          record {
            class = subst (λ k. k < class_count m.meta) (sym there.class) w.class;
            concrete = ap (λ k. (meta_class m.meta k).is_abstract) there.class ∙ w.concrete;
            identifier = ap is_identifier_text there.id ∙ w.identifier;
            slots = long;
          }
      by (Origin.new there) =
          let listed : Contains (demanded_terms demands) there.term =
          (from_filter (λ t. is_none (image program m t)) (demanded_terms demands) there.term (there.place, there.within, there.term_is)).0 in
          let concrete = placeable.concrete there.term listed in
          let place : there.place < length (demanded_ids program m demands) = place_within there.place there.within in
          let id = id_at_place there.place place in
          record {
            class = subst (λ k. k < class_count m.meta) (sym there.class) concrete.known;
            concrete = ap (λ k. (meta_class m.meta k).is_abstract) there.class ∙ concrete.concrete;
            identifier = ap is_identifier_text (there.id ∙ sym id.is) ∙ fresh_id_text id.number id.below;
            slots = long;
          }

  -- ---- identifiers

  -- an identifier is that of an object of the target, or one of the unused ones
  data IdCase (o : ℕ) (id : List ℕ) : Type 0 where
    old : id_at m o ≡ Some id → IdCase o id
    new : (k : ℕ) → k < length (demanded_ids program m demands) → o ≡ length m.objects + k
        → get_or (demanded_ids program m demands) k [] ≡ id → IdCase o id

  id_case : (o : ℕ) (id : List ℕ) → id_at (candidate program m demands) o ≡ Some id → IdCase o id
  id_case o id h = of_object (object_at (candidate program m demands) o) refl h
    where
      of_object : (x : Option Object) → object_at (candidate program m demands) o ≡ x → option_map (λ (ob : Object). ob.id) x ≡ Some id → IdCase o id
      of_object None is e = absurd (none-some id e)
      of_object (Some ob) is e = by (source program m demands placeable o ob is)
        where
          by : Source program m demands placeable o ob → IdCase o id
          by (Origin.old there) = IdCase.old
              (ap (λ (x : Option Object). option_map (λ (ob : Object). ob.id) x) there.was_is ∙ ap (λ z. Some z) (sym there.id) ∙ e)
          by (Origin.new there) =
              let place : there.place < length (demanded_ids program m demands) = place_within there.place there.within in
              IdCase.new there.place place there.number (sym there.id ∙ same_Some ob.id id e)

  not_both : (o k : ℕ) (id : List ℕ) → id_at m o ≡ Some id → k < length (demanded_ids program m demands)
      → get_or (demanded_ids program m demands) k [] ≡ id → ⊥
  not_both o k id first within is =
      let found = id_at_place k within in
      true≢false (sym (used m o id first) ∙ ap (is_used m) (sym is) ∙ found.unused)

  pub one_object : (a b : ℕ) (id : List ℕ) → id_at (candidate program m demands) a ≡ Some id → id_at (candidate program m demands) b ≡ Some id → a ≡ b
  one_object a b id first second = by (id_case a id first) (id_case b id second)
    where
      by : IdCase a id → IdCase b id → a ≡ b
      by (IdCase.old h) (IdCase.old g) = placeable.kept.identifiers a b id h g
      by (IdCase.old h) (IdCase.new k within number is) = absurd (not_both a k id h within is)
      by (IdCase.new k within number is) (IdCase.old g) = absurd (not_both b k id g within is)
      by (IdCase.new k within number is) (IdCase.new j below at same) =
          let apart = ids_once m (length (demanded_fresh program m demands)) placeable.few in
          let places : k ≡ j = one_place (demanded_ids program m demands) k j [] apart within below (is ∙ sym same) in
          omega (arith, number, at, places)
