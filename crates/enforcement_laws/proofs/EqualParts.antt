-- Where each object of the model that enforcement makes is one of the target, and all of these stay with what their slots hold, the model is the
-- target.
use Rattle.std.specs.Prelude.{◌≡◌, ◌≤◌, ◌+◌, ◌^◌, ℕ, suc, Bool, List, [], ◌∷◌, length, Option, None, Some, is_some}
use Rattle.std.specs.Option.{option_map}
use Rattle.std.proofs.Common.{refl, ap, sym, ◌∙◌, arith, get_or, true≢false}
use Rattle.std.proofs.lemmas.List.{append-nil}
use Rattle.std.proofs.lemmas.List.FromFn.{length-map-range_with_len}
use Rattle.object_tables.specs.Kept.{Kept}
use Rattle.object_tables.specs.Objects.{Object}
use Rattle.object_tables.specs.Models.{ModelData, object_at, class_at, id_at, values_at, partners_at, IsLive, IsAttributeOf, IsReferenceOf}
use Rattle.object_tables.specs.Sameness.{HasSameParts}
use Rattle.object_tables.proofs.EqualLaws.{models_equal}
use Rattle.qv_syntax.specs.declared.program.Program.{Program}
use Rattle.repair_semantics.specs.declared.term.Term.{Term, out-Term}
use Rattle.repair_semantics.specs.declared.demand.Demand.{Demand}
use Rattle.repair_semantics.specs.Claims.{Claim}
use Rattle.repair_semantics.specs.Demands.{demanded_terms}
use Rattle.repair_semantics.specs.Deletions.{managed_classes, images_of, stays}
use Rattle.repair_semantics.specs.CandidateObjects.{fresh_terms, term_number, unused_ids}
use Rattle.repair_semantics.specs.Candidates.{claims_by_number, slots_of, old_object, old_objects, candidate_with, candidate}
use Rattle.candidate_laws.proofs.IdentifierLaws.{enough_ids}
use Rattle.candidate_laws.proofs.Made.{IsOld, Origin, origin, fresh_at}

no_terms : (ts : List Term) → length ts ≡ 0 → ts ≡ []
no_terms [] none = refl
no_terms (t ∷ ts) none = absurd (omega (arith, none))

module _ (program : Program) (m : ModelData) (demands : List Demand)
    (few : length (fresh_terms program m (demanded_terms demands)) + length m.objects ≤ 2 ^ 64)
  where
    abbrev pub terms : List Term
    terms = demanded_terms demands

    abbrev pub fresh : List Term
    fresh = fresh_terms program m terms

    abbrev pub live : ℕ → Bool
    live = stays m (managed_classes program) (images_of program m terms)

    abbrev pub claims : List (Claim ℕ)
    claims = claims_by_number m.meta (term_number program m terms) demands

    abbrev pub made : ModelData
    made = candidate program m demands

    pub enough : length (unused_ids m (length fresh)) ≡ length fresh
    enough = enough_ids m (length fresh) few

    -- an object that is made is one of the target
    abbrev pub AreOld : Type 0
    AreOld = (o : ℕ) (ob : Object) → object_at made o ≡ Some ob → IsOld program m live claims o ob

    -- so it is where no term is fresh
    pub old_where_none : length fresh ≡ 0 → AreOld
    old_where_none none o ob is = by (origin program m live claims fresh enough o ob is)
      where
        by : Origin program m live claims fresh enough o ob → IsOld program m live claims o ob
        by (Origin.old old) = old
        by (Origin.new new) = let within = new.within in absurd (omega (arith, none, within))

    -- and no term is fresh where it is so
    none_where_old : AreOld → length fresh ≡ 0
    none_where_old olds = by fresh refl
      where
        by : (ts : List Term) → fresh ≡ ts → length fresh ≡ 0
        by [] is = ap (λ (xs : List Term). length xs) is
        by (t ∷ ts) is =
            let more : length fresh ≡ suc (length ts) = ap (λ (xs : List Term). length xs) is in
            let first : Term = get_or fresh 0 t in
            let ob : Object = record {
              class = (out-Term first).class.0;
              id = get_or (unused_ids m (length fresh)) 0 [];
              slots = slots_of program m live claims (length m.objects + 0) (out-Term first).class.0;
            } in
            let there : object_at made (length m.objects + 0) ≡ Some ob = fresh_at program m live claims fresh enough 0 t (omega (arith, more)) in
            let within = (olds (length m.objects + 0) ob there).within in
            absurd (omega (arith, within))

    same_count : length fresh ≡ 0 → length made.objects ≡ length m.objects
    same_count none =
        ap (λ (ts : List Term). length (candidate_with program m live claims ts).objects) (no_terms fresh none)
        ∙ ap (λ (xs : List (Option Object)). length xs) (append-nil (old_objects program m live claims))
        ∙ length-map-range_with_len (λ o. old_object program m live claims o (object_at m o)) 0 (length m.objects)

    module _ (olds : AreOld) (stay : (o : ℕ) → IsLive m o → IsLive made o) where
      -- a number is that of an object in both models, with one class and one identifier, or in neither
      data InBoth (o : ℕ) : Type 0 where
        neither : object_at m o ≡ None → object_at made o ≡ None → InBoth o
        both : (was now : Object) → object_at m o ≡ Some was → object_at made o ≡ Some now → now.class ≡ was.class → now.id ≡ was.id → InBoth o

      in_both : (o : ℕ) → InBoth o
      in_both o = by (object_at made o) refl (object_at m o) refl
        where
          by : (x : Option Object) → object_at made o ≡ x → (y : Option Object) → object_at m o ≡ y → InBoth o
          by None is None was = InBoth.neither was is
          by None is (Some ob) was = absurd (true≢false (sym (stay o (ap (λ (x : Option Object). is_some x) was)) ∙ ap (λ (x : Option Object). is_some x) is))
          by (Some ob) is y was = let old = olds o ob is in InBoth.both old.was ob old.was_is is old.class old.id

      class_same : (o : ℕ) → class_at made o ≡ class_at m o
      class_same o = by (in_both o)
        where
          by : InBoth o → class_at made o ≡ class_at m o
          by (InBoth.neither was is) = ap (option_map (λ (ob : Object). ob.class)) is ∙ sym (ap (option_map (λ (ob : Object). ob.class)) was)
          by (InBoth.both was now before after class id) =
              ap (option_map (λ (ob : Object). ob.class)) after ∙ ap (λ (k : ℕ). Some k) class ∙ sym (ap (option_map (λ (ob : Object). ob.class)) before)

      id_same : (o : ℕ) → id_at made o ≡ id_at m o
      id_same o = by (in_both o)
        where
          by : InBoth o → id_at made o ≡ id_at m o
          by (InBoth.neither was is) = ap (option_map (λ (ob : Object). ob.id)) is ∙ sym (ap (option_map (λ (ob : Object). ob.id)) was)
          by (InBoth.both was now before after class id) =
              ap (option_map (λ (ob : Object). ob.id)) after ∙ ap (λ (i : List ℕ). Some i) id ∙ sym (ap (option_map (λ (ob : Object). ob.id)) before)

      pub equal_parts : Kept m → Kept made → ((o p : ℕ) → IsAttributeOf m o p → values_at made o p ≡ values_at m o p)
          → ((o p : ℕ) → IsReferenceOf m o p → partners_at made o p ≡ partners_at m o p) → made ≡ m
      equal_parts kept kept_made values partners =
          let parts : HasSameParts m made =
          record { meta = refl; count = same_count (none_where_old olds); classes = class_same; identifiers = id_same; values = values; partners = partners } in
          models_equal m made parts kept kept_made
