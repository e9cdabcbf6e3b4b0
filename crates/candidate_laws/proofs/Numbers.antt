-- The numbers of demanded terms: different terms have different ones, and each is that of an object whose class conforms to the term's.
use Rattle.std.specs.Prelude.{◌≡◌, ◌<◌, ◌+◌, ℕ, zero, suc, Bool, true, false, ◌&&◌, ◌||◌, not, is_some, List, [], length, Option, None, Some, Contains}
use Rattle.std.specs.List.{position, list_any}
use Rattle.std.specs.Option.{option_map, option_map_or}
use Rattle.std.proofs.Common.{refl, ap, sym, ◌∙◌, subst, arith, get_or, true≢false}
use Rattle.std.proofs.lemmas.List.Quantifiers.{position-Some}
use Rattle.std.proofs.lemmas.Option.{none-some, same_Some}
use Rattle.mof_metamodel.specs.Metamodels.{class_count, lineage_of}
use Rattle.mof_metamodel.proofs.WellLemmas.{listed_conforms}
use Rattle.object_tables.specs.Objects.{Object}
use Rattle.object_tables.specs.Models.{ModelData, object_at, class_at}
use Rattle.qv_syntax.specs.declared.program.Program.{Program}
use Rattle.qvtr_semantics.specs.Objects.{is_number_among, conforms_if, conforms_at}
use Rattle.ocl_eval.proofs.ClassLaws.{among_from, among_to}
use Rattle.repair_semantics.specs.declared.term.Term.{Term, out-Term}
use Rattle.repair_semantics.specs.declared.demand.Demand.{Demand}
use Rattle.repair_semantics.specs.Demands.{demanded_terms}
use Rattle.repair_semantics.specs.Terms.{same_term}
use Rattle.repair_semantics.specs.Images.{image}
use Rattle.repair_semantics.specs.Deletions.{managed_classes, images_of, is_unneeded, is_deleted_within, is_deleted, container_of, stays}
use Rattle.repair_semantics.specs.CandidateObjects.{CandidateObject, fresh_terms, number_of, term_number}
use Rattle.repair_semantics.specs.Candidates.{candidate}
use Rattle.repair_semantics.proofs.TieLaws.{ties_are_one}
use Rattle.candidate_laws.specs.Placing.{Placeable}
use Rattle.candidate_laws.specs.Parts.{IsObjectOf, demanded_number, is_staying, demanded_claims, demanded_fresh}
use Rattle.candidate_laws.proofs.Lists.{in_filter_map}
use Rattle.candidate_laws.proofs.IdentifierLaws.{enough_ids}
use Rattle.candidate_laws.proofs.ImageObjects.{image_conforms, image_within}
use Rattle.candidate_laws.proofs.Made.{old_there, fresh_at}

module _ (program : Program) (m : ModelData) (terms : List Term) where
  -- ---- different terms

  -- the place of a fresh object among them
  record HasPlace (t : Term) (n : ℕ) : Type 0 where
    place : ℕ
    number : n ≡ length m.objects + place
    within : place < length (fresh_terms program m terms)
    is : (d : Term) → get_or (fresh_terms program m terms) place d ≡ t

  fresh_place : (t : Term) (n : ℕ) → number_of program m terms (CandidateObject.fresh t) ≡ Some n → HasPlace t n
  fresh_place t n h = by (position (same_term t) (fresh_terms program m terms)) refl h
    where
      by : (p : Option ℕ) → position (same_term t) (fresh_terms program m terms) ≡ p → option_map (λ k. length m.objects + k) p ≡ Some n
          → HasPlace t n
      by None is e = absurd (none-some n e)
      by (Some k) is e = record {
        place = k;
        number = sym (same_Some (length m.objects + k) n e);
        within = (position-Some (same_term t) (fresh_terms program m terms) k t is).0;
        is = λ d. sym ((ties_are_one t (get_or (fresh_terms program m terms) k d)).0
            (position-Some (same_term t) (fresh_terms program m terms) k d is).1);
      }

  -- the number of a term's object: that of its image, or one behind all numbers of the target
  data IsNumbered (t : Term) (n : ℕ) : Type 0 where
    old : image program m t ≡ Some n → n < length m.objects → IsNumbered t n
    new : HasPlace t n → IsNumbered t n

  numbered : (t : Term) (n : ℕ) → term_number program m terms t ≡ Some n → IsNumbered t n
  numbered t n h = by (image program m t) refl h
    where
      by : (o : Option ℕ) → image program m t ≡ o
          → number_of program m terms (option_map_or (λ k. CandidateObject.old k) o (CandidateObject.fresh t)) ≡ Some n → IsNumbered t n
      by None is e = IsNumbered.new (fresh_place t n e)
      by (Some o) is e = subst (λ k. IsNumbered t k) (same_Some o n e) (IsNumbered.old is (image_within program m t o is))

  pub one_term : ((t u : Term) (o : ℕ) → Contains terms t → Contains terms u → image program m t ≡ Some o → image program m u ≡ Some o → t ≡ u)
      → (t u : Term) (n : ℕ) → Contains terms t → Contains terms u
      → term_number program m terms t ≡ Some n → term_number program m terms u ≡ Some n → t ≡ u
  one_term apart t u n has other a b = by (numbered t n a) (numbered u n b)
    where
      by : IsNumbered t n → IsNumbered u n → t ≡ u
      by (IsNumbered.old i l) (IsNumbered.old j k) = apart t u n has other i j
      by (IsNumbered.old i l) (IsNumbered.new q) = absurd (let e = q.number in omega (arith, l, e))
      by (IsNumbered.new p) (IsNumbered.old j l) = absurd (let e = p.number in omega (arith, l, e))
      by (IsNumbered.new p) (IsNumbered.new q) =
          let places : p.place ≡ q.place = (let i = p.number in let j = q.number in omega (arith, i, j)) in
          sym (p.is t) ∙ ap (λ k. get_or (fresh_terms program m terms) k t) places ∙ q.is t

  -- ---- the image of a demanded term stays

  needed : (classes images : List ℕ) (o : ℕ) → is_number_among o images ≡ true → is_unneeded m classes images o ≡ false
  needed classes images o among = ap (λ b. list_any (λ class. conforms_at m class o) classes && not b) among
      ∙ and_false (list_any (λ class. conforms_at m class o) classes)
    where
      and_false : (a : Bool) → (a && false) ≡ false
      and_false true = refl
      and_false false = refl

  kept_within : (classes images : List ℕ) (n o : ℕ) → is_number_among o images ≡ true → is_deleted_within m classes images n o ≡ false
  kept_within classes images zero o among = needed classes images o among
  kept_within classes images (suc n) o among =
      ap (λ b. b || (not (is_number_among o images) && option_map_or (is_deleted_within m classes images n) (container_of m o) false))
      (needed classes images o among)
      ∙ ap (λ b. not b && option_map_or (is_deleted_within m classes images n) (container_of m o) false) among

  image_stays : (classes : List ℕ) (t : Term) (o : ℕ) (was : Object) → Contains terms t → image program m t ≡ Some o → object_at m o ≡ Some was
      → stays m classes (images_of program m terms) o ≡ true
  image_stays classes t o was has is there =
      ap (λ (x : Option Object). is_some x && not (is_deleted m classes (images_of program m terms) o)) there
      ∙ ap not (kept_within classes (images_of program m terms) (length m.objects) o
      (among_from o (images_of program m terms) (in_filter_map (image program m) terms t o has is)))

module _ (program : Program) (m : ModelData) (demands : List Demand) (placeable : Placeable program m demands) where
  pub numbers_apart : (t u : Term) (n : ℕ) → Contains (demanded_terms demands) t → Contains (demanded_terms demands) u
      → demanded_number program m demands t ≡ Some n → demanded_number program m demands u ≡ Some n → t ≡ u
  numbers_apart = one_term program m (demanded_terms demands) placeable.apart

  old_object_of : (t : Term) (n : ℕ) → Contains (demanded_terms demands) t → image program m t ≡ Some n → IsObjectOf program m demands t n
  old_object_of t n has is = by (object_at m n) refl (image_conforms program m t n is)
    where
      by : (x : Option Object) → object_at m n ≡ x → conforms_if m.meta (out-Term t).class.0 (option_map (λ (ob : Object). ob.class) x) ≡ true
          → IsObjectOf program m demands t n
      by None there h = absurd (true≢false (sym h))
      by (Some was) there h =
          let known : was.class < class_count m.meta = (placeable.kept.objects n was there).class in
          record {
            class = was.class;
            class_is =
                ap (λ (x : Option Object). option_map (λ (ob : Object). ob.class) x)
                (old_there program m (is_staying program m demands) (demanded_claims program m demands) (demanded_fresh program m demands) n was
                (image_within program m t n is) there
                (image_stays program m (demanded_terms demands) (managed_classes program) t n was has is there));
            known = known;
            conforms = listed_conforms m.meta was.class (out-Term t).class.0 known (among_to (out-Term t).class.0 (lineage_of m.meta was.class) h);
          }

  new_object_of : (t : Term) (n : ℕ) → Contains (demanded_terms demands) t → HasPlace program m (demanded_terms demands) t n
      → IsObjectOf program m demands t n
  new_object_of t n has place =
      record {
        class = (out-Term t).class.0;
        class_is =
            ap (class_at (candidate program m demands)) place.number
            ∙ ap (λ (x : Option Object). option_map (λ (ob : Object). ob.class) x)
            (fresh_at program m (is_staying program m demands) (demanded_claims program m demands) (demanded_fresh program m demands)
            (enough_ids m (length (demanded_fresh program m demands)) placeable.few) place.place t place.within)
            ∙ ap (λ (u : Term). Some (out-Term u).class.0) (place.is t);
        known = (placeable.concrete t has).known;
        conforms = ([], refl);
      }

  pub object_of_term : (t : Term) (n : ℕ) → Contains (demanded_terms demands) t → demanded_number program m demands t ≡ Some n
      → IsObjectOf program m demands t n
  object_of_term t n has is = by (numbered program m (demanded_terms demands) t n is)
    where
      by : IsNumbered program m (demanded_terms demands) t n → IsObjectOf program m demands t n
      by (IsNumbered.old i l) = old_object_of t n has i
      by (IsNumbered.new q) = new_object_of t n has q
