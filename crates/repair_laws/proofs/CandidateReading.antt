-- The model that enforcement makes is one in which the demanded terms have objects and all demands stand, where the key values of these terms
-- are demanded and what is demanded goes into its slot.
use Rattle.std.specs.Prelude.{◌≡◌, ◌≤◌, ◌<◌, ◌+◌, ◌-◌, ◌^◌, ◌&&◌, ◌==◌, ◌⊎◌, ℕ, zero, suc, Bool, true, false, not, is_none, is_some, List, [], ◌∷◌, map, length, Option, None, Some, slice_get, Contains, if◌then◌else◌}
use Rattle.std.specs.List.{list_any, filter_map, flat_map}
use Rattle.std.specs.Option.{option_map, option_map_or}
use Rattle.std.proofs.Common.{refl, ap, sym, ◌∙◌, subst, arith, inl, inr, true≢false}
use Rattle.std.proofs.lemmas.Option.{none-some, same_Some}
use Rattle.std.proofs.lemmas.Bool.{cases_lt, eq-eqb}
use Rattle.mof_metamodel.specs.declared.desc.PropId.{PropId}
use Rattle.mof_metamodel.specs.Metamodels.{class_count, Conforms, lineage_of, props_of, owner_of}
use Rattle.mof_metamodel.proofs.PropLemmas.{owner_listed, listed_has, prop_known}
use Rattle.mof_metamodel.proofs.ReachLemmas.{conforms_through}
use Rattle.mof_metamodel.proofs.WellLemmas.{conforms_listed}
use Rattle.object_tables.specs.Objects.{Object}
use Rattle.object_tables.specs.Models.{ModelData, object_at, class_at, is_class_type}
use Rattle.object_tables.specs.Validity.{Valid}
use Rattle.qv_syntax.specs.declared.program.Program.{Program}
use Rattle.qvtr_semantics.specs.declared.datum.Datum.{Datum}
use Rattle.qvtr_semantics.specs.Objects.{is_number_among, is_kind_of, conforms_if, conforms_at}
use Rattle.evaluation_laws.proofs.NavigationLaws.{among}
use Rattle.enforcement_rules.proofs.ListLaws.{any_here, within_some}
use Rattle.mof_metamodel.proofs.Facts.{contains_at}
use Rattle.std.proofs.lemmas.Bool.{and_from}
use Rattle.std.proofs.lemmas.Bool.{or_left}
use Rattle.repair_semantics.specs.declared.term.Term.{Term, out-Term}
use Rattle.repair_semantics.specs.declared.term.TermValue.{TermValue, out-TermValue}
use Rattle.repair_semantics.specs.declared.term.TermValue.TheOpen as of
use Rattle.repair_semantics.specs.declared.demand.Demand.{Demand}
use Rattle.repair_semantics.specs.Terms.{term_in, datum_in, term_part}
use Rattle.repair_semantics.specs.Demands.{terms_in, demanded_terms}
use Rattle.repair_semantics.specs.Claims.{Held}
use Rattle.repair_semantics.specs.Conflicts as terms_of
use Rattle.repair_semantics.specs.Images.{holds, holds_key, image}
use Rattle.repair_semantics.specs.Deletions.{managed_classes, images_of, is_unneeded, container_of, is_deleted_within, is_deleted, stays}
use Rattle.repair_semantics.specs.CandidateObjects.{CandidateObject, fresh_terms, number_of, term_number}
use Rattle.repair_semantics.specs.Candidates.{held_by_number, claims_by_number, candidate}
use Rattle.reading_laws.specs.Keyed.{TellsByKeys}
use Rattle.reading_laws.specs.Readings.{Numbering, held_as, IsReading, AllStand}
use Rattle.repair_laws.specs.Closed.{AreClosed}
use Rattle.repair_laws.specs.DemandedKeys.{IsDemandedAt, AreDemandedAt, IsDemandedByKey, IsInDemands}
use Rattle.repair_laws.specs.Going.{GoesInto}
use Rattle.repair_laws.specs.Standing.{FitsAt}
use Rattle.repair_laws.proofs.ImageLaws.{image_conforms, image_is_live}
use Rattle.repair_laws.proofs.ManagedLaws.{from_filter, from_filter_map, lineage_conforms}
use Rattle.repair_laws.proofs.ObjectLaws.{got_at, HasPlace, fresh_place, one_object_one_term}
use Rattle.repair_laws.proofs.DemandedLaws.{has_object, image_stays}
use Rattle.repair_laws.proofs.DemandLaws.{demand_stands}
use Rattle.repair_laws.proofs.IdentifierLaws.{enough_ids}
use Rattle.repair_laws.proofs.CandidateLaws.{fresh_at, none_past, stays_with_class, is_gone, demanded_is_live}
use Rattle.repair_laws.proofs.EntryTerms.{either_one}
use Rattle.repair_laws.proofs.TermOrder.{IsAscending, once_ascending, filtered_ascending, one_place}
use Rattle.repair_laws.proofs.DemandedTerms.{closed_by_keys, demanded_at, held_linked, in_demanded, linked_held, value_datum_held, value_number, within_demanded}

-- ---- lists of numbers

among_from : (f : Term → Option ℕ) (xs : List Term) (n : ℕ) → is_number_among n (filter_map f xs) ≡ true → (t : Term) × Contains xs t × (f t ≡ Some n)
among_from f xs n h = from_filter_map f xs n (among n (filter_map f xs) h)

-- ---- the model that is made

module _ (program : Program) (m : ModelData) (demands : List Demand) where
  abbrev terms : List Term
  terms = demanded_terms demands

  abbrev number : Numbering
  number = term_number program m terms

  abbrev made : ModelData
  made = candidate program m demands

  module _ (valid : Valid m) (valid_made : Valid made) (few : length (fresh_terms program m terms) + length m.objects ≤ 2 ^ 64) (tells : TellsByKeys program m)
      (keys : (t : Term) → Contains terms t → IsDemandedByKey program m.meta demands t) (going : (d : Demand) → Contains demands d → GoesInto program m d) where
    pub closed : AreClosed program terms
    closed = closed_by_keys program m.meta demands keys

    -- ---- the objects of terms

    some_class : (x : Option Object) → is_some x ≡ true → (ob : Object) × (x ≡ Some ob)
    some_class None h = absurd (true≢false (sym h))
    some_class (Some ob) h = (ob, refl)

    old_conforms : (t : Term) (n : ℕ) → Contains terms t → image program m t ≡ Some n → conforms_at made (out-Term t).class.0 n ≡ true
    old_conforms t n c is =
        ap (conforms_if m.meta (out-Term t).class.0) (stays_with_class program m demands n (image_is_live program m t n is) (image_stays program m terms (managed_classes program) t n c is))
        ∙ image_conforms program m t n is

    fresh_class : (t : Term) (n : ℕ) → HasPlace program m terms t n → class_at made n ≡ Some (out-Term t).class.0
    fresh_class t n p =
        ap (class_at made) p.number
        ∙ ap (option_map (λ (ob : Object). ob.class))
        (fresh_at program m (stays m (managed_classes program) (images_of program m terms)) (claims_by_number m.meta number demands) (fresh_terms program m terms) p.place t
        (enough_ids m (length (fresh_terms program m terms)) few) p.within)
        ∙ ap (λ (u : Term). Some (out-Term u).class.0) (p.is t)

    itself : (n class : ℕ) → class_at made n ≡ Some class → is_kind_of m.meta class class ≡ true
    itself n class is = by (object_at made n) refl is
      where
        by : (x : Option Object) → object_at made n ≡ x → option_map (λ (ob : Object). ob.class) x ≡ Some class → is_kind_of m.meta class class ≡ true
        by None at e = absurd (none-some class e)
        by (Some ob) at e =
            let within : class < class_count m.meta = subst (λ k. k < class_count m.meta) (same_Some ob.class class e) (valid_made.kept.objects n ob at).class in
            any_here (λ k. k == class) (lineage_of m.meta class) class (conforms_listed m.meta class class within ([], refl)) (eq-eqb class class refl)

    pub object_conforms : (t : Term) (n : ℕ) → Contains terms t → number t ≡ Some n → conforms_at made (out-Term t).class.0 n ≡ true
    object_conforms t n c at = by (image program m t) refl at
      where
        by : (o : Option ℕ) → image program m t ≡ o → number_of program m terms (option_map_or (λ k. CandidateObject.old k) o (CandidateObject.fresh t)) ≡ Some n
            → conforms_at made (out-Term t).class.0 n ≡ true
        by (Some o) is e = let same : o ≡ n = same_Some o n e in old_conforms t n c (is ∙ ap (λ k. Some k) same)
        by None is e =
            let class = fresh_class t n (fresh_place program m terms t n e) in
            ap (conforms_if m.meta (out-Term t).class.0) class ∙ itself n (out-Term t).class.0 class

    -- the properties of a term's class are properties of its object
    own_property : (class n p : ℕ) (ob : Object) → object_at made n ≡ Some ob → conforms_at made class n ≡ true → Contains (props_of m.meta class) p → Contains (props_of m.meta ob.class) p
    own_property class n p ob at conforms has =
        let kind : is_kind_of m.meta ob.class class ≡ true = sym (ap (λ (x : Option Object). conforms_if m.meta class (option_map (λ o. o.class) x)) at) ∙ conforms in
        let up : Conforms m.meta ob.class class = lineage_conforms m.meta ob.class class (among class (lineage_of m.meta ob.class) kind) in
        let over : Conforms m.meta class (owner_of m.meta p) = lineage_conforms m.meta class (owner_of m.meta p) (owner_listed m.meta class p has) in
        listed_has m.meta ob.class p (prop_known m.meta class p has)
        (conforms_listed m.meta ob.class (owner_of m.meta p) (valid_made.kept.objects n ob at).class (conforms_through m.meta ob.class class (owner_of m.meta p) up over))

    -- ---- all demands stand

    fits : (d : Demand) → GoesInto program m d → (h : Held ℕ) → held_as number d.value ≡ Some h → FitsAt program m d.prop.0 h
    fits d g h at = by (either_one d.value)
      where
        by : ((t : Term) × (term_in d.value ≡ Some t)) ⊎ ((x : Datum) × (datum_in d.value ≡ Some x)) → FitsAt program m d.prop.0 h
        by (inr (x, is)) =
            let seen = g.datum x is in
            subst (FitsAt program m d.prop.0) (same_Some (Held.datum x) h (sym (value_datum_held number d.value x is) ∙ at)) (FitsAt.datum x seen.value (g.attribute x is) seen.value_is seen.seen)
        by (inl (t, is)) = object (number t) refl
          where
            object : (o : Option ℕ) → number t ≡ o → FitsAt program m d.prop.0 h
            object (Some n) at_n = subst (FitsAt program m d.prop.0) (same_Some (Held.object n) h (sym (value_number number d.value t n is at_n) ∙ at)) (FitsAt.object n (g.object t is))
            object None none = absurd (none-some h (sym (nowhere (out-TermValue d.value) is) ∙ at))
              where
                nowhere : (y : of.TermValue-F TermValue Term) → term_part y ≡ Some t → held_by_number number (terms_of.held_in y) ≡ None
                nowhere (of.Val e) e2 = absurd (none-some t e2)
                nowhere (of.Term u) e2 = ap (option_map (λ k. Held.object k)) (ap number (same_Some u t e2) ∙ none)

    held_there : (d : Demand) → Contains demands d → (h : Held ℕ) × (held_as number d.value ≡ Some h)
    held_there d there = by (either_one d.value)
      where
        by : ((t : Term) × (term_in d.value ≡ Some t)) ⊎ ((x : Datum) × (datum_in d.value ≡ Some x)) → (h : Held ℕ) × (held_as number d.value ≡ Some h)
        by (inr (x, is)) = (Held.datum x, value_datum_held number d.value x is)
        by (inl (t, is)) =
            let n = has_object program m terms t (in_demanded demands t (IsInDemands.value d there is)) in
            (Held.object n.0, value_number number d.value t n.0 is n.1)

    pub all_stand : AllStand program made number demands
    all_stand d there =
        let owned = in_demanded demands d.owner (IsInDemands.owner d there refl) in
        let n = has_object program m terms d.owner owned in
        let h = held_there d there in
        let g = going d there in
        let ob = some_class (object_at made n.0) (demanded_is_live program m demands d.owner n.0 owned few n.1) in
        record {
          owner = n.0;
          owner_is = n.1;
          held = h.0;
          held_is = h.1;
          holds = demand_stands program m demands d n.0 ob.0 h.0 there n.1 h.1 ob.1
              (own_property (out-Term d.owner).class.0 n.0 d.prop.0 ob.0 ob.1 (object_conforms d.owner n.0 owned n.1) g.has) (fits d g h.0 h.1);
        }

    -- ---- the objects hold their keys

    key_held : (t : Term) (n : ℕ) → number t ≡ Some n → (p : PropId) (x : TermValue) → IsDemandedAt m.meta demands t p x → (h : Held ℕ) × (held_as number x ≡ Some h) × (holds program made n p.0 h ≡ true)
    key_held t n at p x (IsDemandedAt.own d there owner prop value) =
        let s = all_stand d there in
        let same : s.owner ≡ n = same_Some s.owner n (sym s.owner_is ∙ ap number owner ∙ at) in
        (s.held, ap (held_as number) (sym value) ∙ s.held_is, ap (λ k. holds program made k p.0 s.held) (sym same) ∙ ap (λ k. holds program made s.owner k s.held) (sym prop) ∙ s.holds)
    key_held t n at p x (IsDemandedAt.parent d there value opposite owner) =
        let s = all_stand d there in
        let held : s.held ≡ Held.object n = same_Some s.held (Held.object n) (sym s.held_is ∙ value_number number d.value t n value at) in
        let linked = held_linked program made s.owner d.prop.0 n (ap (holds program made s.owner d.prop.0) (sym held) ∙ s.holds) in
        let back = (valid_made.kept.opposites d.prop.0 p.0 s.owner n opposite).0 linked in
        let known = prop_known m.meta (out-Term d.owner).class.0 d.prop.0 (going d there).has in
        let pair = valid_made.kept.well.opposites d.prop.0 p.0 known opposite in (
          Held.object s.owner,
          value_number number x d.owner s.owner owner s.owner_is,
          linked_held program made n p.0 s.owner (ap is_class_type pair.back_type) back,
        )

    keys_held : (t : Term) (n : ℕ) → number t ≡ Some n → (ps : List PropId) (xs : List TermValue) → AreDemandedAt m.meta demands t ps xs
        → holds_key program made n ps (map (held_as number) xs) ≡ true
    keys_held t n at [] [] are = refl
    keys_held t n at [] (x ∷ xs) are = absurd are
    keys_held t n at (p ∷ ps) [] are = absurd are
    keys_held t n at (p ∷ ps) (x ∷ xs) are =
        let (h, is, held) = key_held t n at p x are.0 in
        ap (λ o. holds_key program made n (p ∷ ps) (o ∷ map (held_as number) xs)) is
        ∙ and_from (holds program made n p.0 h) (holds_key program made n ps (map (held_as number) xs)) held (keys_held t n at ps xs are.1)

    -- ---- no other objects of these classes

    old_needed : (class n : ℕ) → Contains (managed_classes program) class → conforms_at m class n ≡ true → stays m (managed_classes program) (images_of program m terms) n ≡ true
        → is_number_among n (images_of program m terms) ≡ true
    old_needed class n managed conforms lives = by (is_number_among n (images_of program m terms)) refl
      where
        unneeded : is_number_among n (images_of program m terms) ≡ false → is_unneeded m (managed_classes program) (images_of program m terms) n ≡ true
        unneeded none =
            and_from (list_any (λ c. conforms_at m c n) (managed_classes program)) (not (is_number_among n (images_of program m terms)))
            (any_here (λ c. conforms_at m c n) (managed_classes program) class managed conforms) (ap not none)

        deleted : (k : ℕ) → is_unneeded m (managed_classes program) (images_of program m terms) n ≡ true → is_deleted_within m (managed_classes program) (images_of program m terms) k n ≡ true
        deleted zero h = h
        deleted (suc k) h =
            or_left (is_unneeded m (managed_classes program) (images_of program m terms) n)
            (not (is_number_among n (images_of program m terms)) && option_map_or (is_deleted_within m (managed_classes program) (images_of program m terms) k) (container_of m n) false) h

        gone : (a b : Bool) → (a && not b) ≡ true → b ≡ true → ⊥
        gone true true h k = true≢false (sym h)
        gone false b h k = true≢false (sym h)
        gone true false h k = true≢false (sym k)

        by : (b : Bool) → is_number_among n (images_of program m terms) ≡ b → is_number_among n (images_of program m terms) ≡ true
        by true is = is
        by false none =
            absurd (gone (is_some (object_at m n)) (is_deleted m (managed_classes program) (images_of program m terms) n) lives (deleted (length m.objects) (unneeded none)))

    class_there : (x : Option Object) (class : ℕ) → conforms_if m.meta class (option_map (λ (ob : Object). ob.class) x) ≡ true → is_some x ≡ true
    class_there None class h = absurd (true≢false (sym h))
    class_there (Some ob) class h = refl

    old_all : (class n : ℕ) → Contains (managed_classes program) class → conforms_at made class n ≡ true → n < length m.objects → (t : Term) × Contains terms t × (number t ≡ Some n)
    old_all class n managed conforms within = by (stays m (managed_classes program) (images_of program m terms) n) refl
      where
        by : (b : Bool) → stays m (managed_classes program) (images_of program m terms) n ≡ b → (t : Term) × Contains terms t × (number t ≡ Some n)
        by false dead =
            absurd (true≢false (sym (class_there (object_at made n) class conforms) ∙ ap (λ (x : Option Object). is_some x) (is_gone program m demands n within dead)))
        by true lives =
            let before : conforms_at m class n ≡ true = ap (conforms_if m.meta class) (sym (stays_with_class program m demands n within lives)) ∙ conforms in
            let (t, there, is) = among_from (image program m) terms n (old_needed class n managed before lives) in
            (t, there, ap (λ x. number_of program m terms (option_map_or (λ k. CandidateObject.old k) x (CandidateObject.fresh t))) is)

    fresh_all : (class n : ℕ) → conforms_at made class n ≡ true → length m.objects ≤ n → (t : Term) × Contains terms t × (number t ≡ Some n)
    fresh_all class n conforms past = by (cases_lt (n - length m.objects) (length (fresh_terms program m terms)))
      where
        without : (x : Option ℕ) → is_none x ≡ true → x ≡ None
        without None h = refl
        without (Some o) h = absurd (true≢false (sym h))

        ascending : IsAscending (fresh_terms program m terms)
        ascending = filtered_ascending (λ t. is_none (image program m t)) terms (once_ascending (flat_map terms_in demands))

        numbered : (t : Term) → slice_get (fresh_terms program m terms) (n - length m.objects) ≡ Some t → Contains terms t → image program m t ≡ None → (u : Term) × Contains terms u × (number u ≡ Some n)
        numbered t at there none =
            let k = has_object program m terms t there in
            let p = fresh_place program m terms t k.0
            (sym (ap (λ x. number_of program m terms (option_map_or (λ o. CandidateObject.old o) x (CandidateObject.fresh t))) none) ∙ k.1) in
            let at_place : slice_get (fresh_terms program m terms) p.place ≡ Some t = got_at (fresh_terms program m terms) p.place t p.within ∙ ap (λ u. Some u) (p.is t) in
            let same : p.place ≡ n - length m.objects = one_place (fresh_terms program m terms) p.place (n - length m.objects) t ascending at_place at in
            let number_is : k.0 ≡ n = (let e = p.number in omega (arith, e, same, past)) in
            (t, there, k.1 ∙ ap (λ o. Some o) number_is)

        by : (n - length m.objects < length (fresh_terms program m terms)) ⊎ (length (fresh_terms program m terms) ≤ n - length m.objects) → (t : Term) × Contains terms t × (number t ≡ Some n)
        by (inl l) =
            let t = within_some (fresh_terms program m terms) (n - length m.objects) l in
            let kept = from_filter (λ u. is_none (image program m u)) terms t.0 (contains_at (fresh_terms program m terms) (n - length m.objects) t.0 t.1) in
            numbered t.0 t.1 kept.0 (without (image program m t.0) kept.1)
        by (inr le) =
            absurd (true≢false (sym (class_there (object_at made n) class conforms) ∙ ap (λ (x : Option Object). is_some x)
            (none_past program m (stays m (managed_classes program) (images_of program m terms)) (claims_by_number m.meta number demands) (fresh_terms program m terms) n (omega (arith, le, past)))))

    pub reads : IsReading program made terms number
    reads = record {
      holds = λ t n c at.
          let k = keys t c in
          record { props = k.props; key = k.key; conforms = object_conforms t n c at; holds = keys_held t n at k.props (out-Term t).keys k.values };
      apart = λ t u n c d a b. one_object_one_term program m terms valid tells closed t u n c a b;
      within = closed.within;
      all = λ class n managed conforms. all_by class n managed conforms (cases_lt n (length m.objects));
    }
      where
        all_by : (class n : ℕ) → Contains (managed_classes program) class → conforms_at made class n ≡ true → (n < length m.objects) ⊎ (length m.objects ≤ n)
            → (t : Term) × Contains terms t × (number t ≡ Some n)
        all_by class n managed conforms (inl within) = old_all class n managed conforms within
        all_by class n managed conforms (inr past) = fresh_all class n conforms past
