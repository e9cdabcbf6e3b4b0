-- The model that is made of the empty target for the example's demands is sound: it has few objects, is valid, and is three deep.
use Rattle.std.proofs.Common.{◌≡◌, ◌<◌, ◌≤◌, ◌+◌, ℕ, suc, Bool, true, false, List, [], ◌∷◌, length, None, Some, refl, sym, ap, ◌∙◌, subst, arith, inl, inr, get_or}
use Rattle.std.specs.Prelude.{Option, Contains, ◌⊎◌, ◌==◌, slice_get, is_none, if◌then◌else◌}
use Rattle.std.specs.List.{filter_map, flat_map, position}
use Rattle.std.specs.Option.{option_map, option_map_or}
use Rattle.std.proofs.lemmas.List.Quantifiers.{position-Some}
use Rattle.std.proofs.lemmas.Bool.Decides.{nat_tests}
use Rattle.std.proofs.lemmas.Option.{none-some, same_Some, slice_get-get_or}
use Rattle.mof_metamodel.specs.declared.desc.PropType.TheVariants as types
use Rattle.mof_metamodel.specs.Metamodels.{props_of, prop_at, type_of}
use Rattle.object_tables.specs.declared.value.Value.{Value}
use Rattle.object_tables.specs.declared.value.Value.TheVariants as values
use Rattle.object_tables.specs.declared.limit.TheConstants.{MAX_OBJECTS, MAX_DEPTH}
use Rattle.object_tables.specs.Objects.{Object}
use Rattle.object_tables.specs.Models.{ModelData, object_at, class_at, values_at, partners_at, is_class_type, ConformsTo, IsPartnerFor, IsContainedIn}
use Rattle.object_tables.specs.Containment.{IsContainerPath, IsOnCycle}
use Rattle.object_tables.specs.Validity.{count_at, HasTooFew, HasTooMany}
use Rattle.object_tables.proofs.ModelLemmas.{live_class}
use Rattle.template_match.proofs.ListLaws.{all_at}
use Rattle.qvtr_semantics.specs.declared.datum.Datum.TheVariants.{Val}
use Rattle.repair_semantics.specs.declared.term.Term.{Term}
use Rattle.repair_semantics.specs.declared.term.TermValue.{TermValue, out-TermValue}
use Rattle.repair_semantics.specs.declared.demand.Demand.{Demand}
use Rattle.repair_semantics.specs.Terms.{same_term}
use Rattle.repair_semantics.proofs.TieLaws.{ties_are_one}
use Rattle.repair_semantics.specs.Claims.{Held, is_one}
use Rattle.repair_semantics.specs.Conflicts.{held_in}
use Rattle.repair_semantics.specs.Demands.{terms_in, demanded_terms}
use Rattle.repair_semantics.specs.Images as images
use Rattle.repair_semantics.specs.CandidateObjects.{CandidateObject, fresh_terms, number_of, term_number}
use Rattle.repair_semantics.specs.Candidates.{held_by_number, value_held, partner_held, candidate}
use Rattle.candidate_laws.specs.Placing.{Placeable}
use Rattle.candidate_laws.specs.Parts.{IsClaimedIn, made_contents}
use Rattle.candidate_laws.proofs.Lists.{from_filter, in_filter_map}
use Rattle.candidate_laws.proofs.Contents.{contents_claimed}
use Rattle.candidate_laws.proofs.Made.{Origin}
use Rattle.candidate_laws.proofs.MadeSlots.{Source, source, values_are, partners_are, once_in_slot, link_from}
use Rattle.candidate_laws.proofs.Keeping.{made_kept}
use Rattle.repair_laws.specs.DemandedKeys.{IsDemandedAt, IsDemandedByKey}
use Rattle.repair_laws.proofs.TermOrder.{once_ascending, filtered_ascending, one_place}
use Rattle.enforce_mode.specs.Made.{IsSound, IsTooDeep}
use Rattle.example_models.specs.RdbTable.{rdb_desc}
use Rattle.example_models.specs.declared.limits.TheConstants.{MAX_SOURCE_CLASSES}
use Rattle.example_program.specs.MainProgram.{main_program_data}
use Rattle.example_laws.specs.ExampleModels.{empty_target}
use Rattle.example_laws.specs.ExampleEntries.{text_value}
use Rattle.example_laws.specs.ExampleDemands.{IsExampleDemand}
use Rattle.example_laws.proofs.PeaceLaws.{text_held}
use Rattle.example_laws.proofs.Counting.{position_there}
use Rattle.example_laws.proofs.TermLaws.{terms_are_example}
use Rattle.example_laws.proofs.TermFacts.{IsNameOrFree, HasBoundOne, ContainsNext, IsPlainClass, IsNamedTerm, conforms_to, named_term, no_far_name}
use Rattle.example_laws.proofs.MadeClaims.{fewer_given, one_at_most, claimed_by, one_claimed}
use Rattle.example_laws.proofs.EmptyLaws.{all_made_live, few_made}

none_is : {X : Type 0} (o : Option X) → is_none o ≡ true → o ≡ None
none_is None h = refl
none_is (Some x) h = cc

module _ (n seed : ℕ) (few : n ≤ MAX_SOURCE_CLASSES) (ds : List Demand) (only : (d : Demand) → Contains ds d → IsExampleDemand n seed d)
    (placeable : Placeable main_program_data empty_target ds) (keys : (t : Term) → Contains (demanded_terms ds) t → IsDemandedByKey main_program_data rdb_desc ds t)
    (count : length (fresh_terms main_program_data empty_target (demanded_terms ds)) ≤ MAX_OBJECTS)
  where
    abbrev made : ModelData
    made = candidate main_program_data empty_target ds

    abbrev terms : List Term
    terms = demanded_terms ds

    abbrev fresh : List Term
    fresh = fresh_terms main_program_data empty_target terms

    abbrev contents : ℕ → ℕ → List (Held ℕ)
    contents o p = made_contents main_program_data empty_target ds o p

    -- ---- each object is that of a term

    record IsTermsObject (o class : ℕ) : Type 0 where
      term : Term
      demanded : Contains terms term
      number : term_number main_program_data empty_target terms term ≡ Some o
      facts : IsNamedTerm ds term
      class_is : class ≡ facts.class

    -- the number of a fresh term is its place
    numbered : (t : Term) (place : ℕ) → place < length fresh → get_or fresh place t ≡ t → images.image main_program_data empty_target t ≡ None
        → term_number main_program_data empty_target terms t ≡ Some place
    numbered t place within is none =
        ap (λ (x : Option ℕ). number_of main_program_data empty_target terms (option_map_or (λ k. CandidateObject.old k) x (CandidateObject.fresh t))) none
        ∙ (let there = position_there (same_term t) fresh place t within ((ties_are_one t (get_or fresh place t)).1 (sym is)) in by there.0 there.1)
      where
        by : (k : ℕ) → position (same_term t) fresh ≡ Some k → option_map (λ k. 0 + k) (position (same_term t) fresh) ≡ Some place
        by k at =
            let found = position-Some (same_term t) fresh k t at in
            let first : slice_get fresh k ≡ Some t = slice_get-get_or fresh k t found.0 ∙ ap (λ u. Some u) (sym ((ties_are_one t (get_or fresh k t)).0 found.1)) in
            let second : slice_get fresh place ≡ Some t = slice_get-get_or fresh place t within ∙ ap (λ u. Some u) is in
            let same : k ≡ place =
            one_place fresh k place t (filtered_ascending (λ u. is_none (images.image main_program_data empty_target u)) terms (once_ascending (flat_map terms_in ds))) first second in
            let one : 0 + k ≡ place = omega (arith, same) in
            ap (option_map (λ k. 0 + k)) at ∙ ap (λ k. Some k) one

    object_of : (o : ℕ) (ob : Object) → object_at made o ≡ Some ob → IsTermsObject o ob.class
    object_of o ob h = by (source main_program_data empty_target ds placeable o ob h)
      where
        by : Source main_program_data empty_target ds placeable o ob → IsTermsObject o ob.class
        by (Origin.old stays) = absurd (none-some stays.was stays.was_is)
        by (Origin.new one) =
            let (there, none) = from_filter (λ u. is_none (images.image main_program_data empty_target u)) terms one.term (one.place, one.within, one.term_is) in
            let at = one.number in
            let place : o ≡ one.place = omega (arith, at) in
            let facts = named_term n seed ds one.term (terms_are_example n seed ds only one.term there) in
            record {
              term = one.term;
              demanded = there;
              number = numbered one.term one.place one.within one.term_is (none_is (images.image main_program_data empty_target one.term) none) ∙ ap (λ k. Some k) (sym place);
              facts = facts;
              class_is = one.class ∙ facts.class_is;
            }

    record IsTold (o class : ℕ) : Type 0 where
      object : Object
      there : object_at made o ≡ Some object
      own : object.class ≡ class
      of : IsTermsObject o class

    told : (o class : ℕ) → class_at made o ≡ Some class → IsTold o class
    told o class h = by (object_at made o) refl h
      where
        by : (x : Option Object) → object_at made o ≡ x → option_map (λ (ob : Object). ob.class) x ≡ Some class → IsTold o class
        by None is e = absurd (none-some class e)
        by (Some ob) is e =
            let same : ob.class ≡ class = same_Some ob.class class e in
            record { object = ob; there = is; own = same; of = subst (IsTermsObject o) same (object_of o ob is) }

    plain_class : (o class : ℕ) → IsTermsObject o class → IsPlainClass class
    plain_class o class x = subst IsPlainClass (sym x.class_is) x.facts.plain

    -- ---- lower bounds: each object has its name

    named : (o class : ℕ) → IsTold o class → 1 ≤ length (values_at made o 0)
    named o class x = by (x.of.facts.keyed (keys x.of.term x.of.demanded))
      where
        by : IsDemandedAt rdb_desc ds x.of.term (record { 0 = 0 }) (text_value x.of.facts.name) → 1 ≤ length (values_at made o 0)
        by (IsDemandedAt.parent d there value opposite owner) = absurd (no_far_name n seed ds d (only d there) opposite)
        by (IsDemandedAt.own d there owner prop value) =
            let number : Term → Option ℕ = term_number main_program_data empty_target terms in
            let h : Held ℕ = Held.datum (Val 0 (values.Str x.of.facts.name)) in
            let claimed : IsClaimedIn main_program_data empty_target ds o d.prop.0 h =
            claimed_by main_program_data empty_target ds d o h there (ap number owner ∙ x.of.number)
            (ap (λ (v : TermValue). held_by_number number (held_in (out-TermValue v))) value ∙ ap (held_by_number number) (text_held x.of.facts.name)) in
            let held : Contains (contents o 0) h = contents_claimed main_program_data empty_target ds o 0 h (subst (λ p. IsClaimedIn main_program_data empty_target ds o p h) prop claimed) in
            let listed = in_filter_map value_held (contents o 0) h (values.Str x.of.facts.name) held refl in
            let below : listed.0 < length (filter_map value_held (contents o 0)) = listed.1 in
            let same = ap (λ (xs : List Value). length xs)
            (values_are main_program_data empty_target ds placeable o 0 class (ap (option_map (λ (ob : Object). ob.class)) x.there ∙ ap (λ c. Some c) x.own) (plain_class o class x.of).named) in
            omega (arith, below, same)

    enough : (o p : ℕ) → HasTooFew made o p → ⊥
    enough o p few_there = by (all_at IsNameOrFree (props_of rdb_desc few_there.property.class) p (plain_class o few_there.property.class x.of).names few_there.property.has)
      where
        x : IsTold o few_there.property.class
        x = told o few_there.property.class few_there.property.class_is

        by : IsNameOrFree p → ⊥
        by (inr free) = let below = few_there.below in omega (arith, below, free)
        by (inl name) =
            let below : length (values_at made o 0) < 1 = subst (λ q. count_at made o q < (prop_at rdb_desc q).lower) name few_there.below in
            let there = named o few_there.property.class x in
            omega (arith, below, there)

    -- ---- upper bounds: a slot of one has one thing at most

    not_many : (o p class bound : ℕ) → class_at made o ≡ Some class → Contains (props_of rdb_desc class) p → (prop_at rdb_desc p).upper ≡ Some bound → bound ≡ 1 → count_at made o p ≤ 1
    not_many o p class bound class_is has upper one = by (is_class_type (type_of rdb_desc p)) refl
      where
        single : is_one (prop_at rdb_desc p).upper ≡ true
        single = let same : (bound == 1) ≡ true = grind (arith, nat_tests) in ap is_one upper ∙ same

        few_contents : length (contents o p) ≤ 1
        few_contents =
            one_at_most (contents o p) (once_in_slot main_program_data empty_target ds placeable o p class class_is has)
            (λ h i a b. one_claimed n seed few ds only placeable o p h i single a b)

        by : (b : Bool) → is_class_type (type_of rdb_desc p) ≡ b → count_at made o p ≤ 1
        by true is =
            let counted : count_at made o p ≡ length (partners_at made o p) = ap (λ (b : Bool). if b then length (partners_at made o p) else length (values_at made o p)) is in
            let given = fewer_given partner_held (contents o p) in
            let same = ap (λ (xs : List ℕ). length xs) (partners_are main_program_data empty_target ds placeable o p class class_is has) in
            let short = few_contents in
            omega (arith, counted, given, same, short)
        by false is =
            let counted : count_at made o p ≡ length (values_at made o p) = ap (λ (b : Bool). if b then length (partners_at made o p) else length (values_at made o p)) is in
            let given = fewer_given value_held (contents o p) in
            let same = ap (λ (xs : List Value). length xs) (values_are main_program_data empty_target ds placeable o p class class_is has) in
            let short = few_contents in
            omega (arith, counted, given, same, short)

    no_more : (o p : ℕ) → HasTooMany made o p → ⊥
    no_more o p many =
        let x = told o many.property.class many.property.class_is in
        let bounds = all_at HasBoundOne (props_of rdb_desc many.property.class) p (plain_class o many.property.class x.of).bounds many.property.has in
        let one = bounds many.bound many.bound_is in
        let most = not_many o p many.property.class many.bound many.property.class_is many.property.has many.bound_is one in
        let above = many.above in
        omega (arith, one, most, above)

    -- ---- containers: a column in a table, a table in a schema

    -- an object and its container are of classes behind one another
    record IsNextIn (o a : ℕ) : Type 0 where
      class : ℕ
      whole : class_at made a ≡ Some class
      part : class_at made o ≡ Some (suc class)

    partner_class : (a p o class : ℕ) → type_of rdb_desc p ≡ Some (types.Class (record { 0 = suc class })) → class_at made a ≡ Some class → IsPartnerFor made p o
        → class_at made o ≡ Some (suc class)
    partner_class a p o class ty whole partner = by (conforms_to partner.class (suc class) plain.supers (subst (ConformsTo rdb_desc partner.class) ty partner.conforms))
      where
        plain : IsPlainClass partner.class
        plain = plain_class o partner.class (told o partner.class partner.class_is).of

        by : (partner.class ≡ suc class) ⊎ (0 ≡ suc class) → class_at made o ≡ Some (suc class)
        by (inl same) = partner.class_is ∙ ap (λ c. Some c) same
        by (inr none) = absurd (omega (arith, none))

    next_in : (o a p : ℕ) → IsContainedIn made o a p → IsNextIn o a
    next_in o a p within =
        let link = link_from main_program_data empty_target ds placeable p a o within.linked in
        let x = told a link.class link.class_is in
        let ty = all_at (ContainsNext link.class) (props_of rdb_desc link.class) p (plain_class a link.class x.of).parts link.has within.composite in
        let reference : is_class_type (type_of rdb_desc p) ≡ true = ap is_class_type ty in
        let kept = (made_kept main_program_data empty_target ds placeable).references a p (record { class = link.class; class_is = link.class_is; has = link.has; reference = reference }) in
        record { class = link.class; whole = link.class_is; part = partner_class a p o link.class ty link.class_is (kept.partners o within.linked) }

    -- so paths of containers lead to lower classes
    record IsAbove (a class steps : ℕ) : Type 0 where
      last : ℕ
      is : class_at made a ≡ Some last
      lower : last + steps ≡ class

    above : (path : List ℕ) (o a class : ℕ) → class_at made o ≡ Some class → IsContainerPath made o path a → IsAbove a class (length path)
    above [] o a class is same = record { last = class; is = ap (class_at made) (sym same) ∙ is; lower = omega arith }
    above (b ∷ path) o a class is (within, rest) =
        let next = next_in o b within.0 within.1 in
        let one : suc next.class ≡ class = same_Some (suc next.class) class (sym next.part ∙ is) in
        let more = above path b a next.class next.whole rest in
        let lower = more.lower in
        record { last = more.last; is = more.is; lower = omega (arith, one, lower) }

    no_cycle : (o : ℕ) → IsOnCycle made o → ⊥
    no_cycle o (a, path, within, back) =
        let next = next_in o a within.0 within.1 in
        let more = above path a o next.class next.whole back in
        let same : suc next.class ≡ more.last = same_Some (suc next.class) more.last (sym next.part ∙ more.is) in
        let lower = more.lower in
        omega (arith, same, lower)

    flat : IsTooDeep made → ⊥
    flat deep =
        let (path, top, leads, is_top, depth) = deep.is in
        let (class, is) = live_class made deep.object deep.live in
        let low = (plain_class deep.object class (told deep.object class is).of).low in
        let more = above path deep.object top class is leads in
        let lower = more.lower in
        let past = deep.deep in
        let most : MAX_DEPTH ≡ 200 = refl in
        omega (arith, low, lower, past, depth, most)

    -- ---- all of it

    pub is_sound : IsSound (candidate main_program_data empty_target ds)
    is_sound = record {
      few = (
          let live = all_made_live main_program_data ds in
          let no_more_there = few_made main_program_data ds in
          omega (arith, live, no_more_there, count)
          );
      valid = record {
        kept = made_kept main_program_data empty_target ds placeable;
        bounds = λ o p. record { lower = enough o p; upper = no_more o p };
        acyclic = no_cycle;
      };
      flat = flat;
    }
