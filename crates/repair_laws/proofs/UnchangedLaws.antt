-- Where all demands stand in a valid target and none of its objects is unneeded, the model that enforcement makes is the target.
use Rattle.std.specs.Prelude.{◌≡◌, ◌<◌, ◌+◌, ℕ, zero, suc, Bool, true, false, ◌&&◌, ◌||◌, not, ◌==◌, cond, is_none, is_some, List, [], ◌∷◌, ◌++◌, map, length, Option, None, Some, Contains, if◌then◌else◌}
use Rattle.std.specs.List.{list_any, filter, filter_map, flat_map, cons_option, range_with_len}
use Rattle.std.specs.Option.{option_map, option_map_or, option_and_then}
use Rattle.std.proofs.Common.{refl, ap, sym, ◌∙◌, subst, arith, get_or}
use Rattle.std.proofs.lemmas.Bool.Decides.{nat_tests}
use Rattle.std.proofs.lemmas.List.{get_or_default, get_or-map, length-map, ext_get_or, append-nil}
use Rattle.std.proofs.lemmas.List.FromFn.{get_or-map-range_with_len, length-map-range_with_len}
use Rattle.mof_metamodel.specs.Metamodels.{props_of, type_of}
use Rattle.object_tables.specs.declared.value.Value.{Value}
use Rattle.object_tables.specs.declared.value.Value.TheVariants as values
use Rattle.object_tables.specs.Objects.{Object, Slot}
use Rattle.object_tables.specs.Models.{ModelData, object_at, class_at, is_class_type, values_at, partners_at, slot_in, no_slot}
use Rattle.object_tables.specs.Validity.{Valid}
use Rattle.object_tables.proofs.DistinctLemmas.{property_place}
use Rattle.object_tables.proofs.KeptLemmas.{sound_of, linked_partner}
use Rattle.template_match.proofs.ListLaws.{contains_later}
use Rattle.mof_metamodel.proofs.Facts.{contains_first}
use Rattle.qv_syntax.specs.declared.program.Program.{Program}
use Rattle.qvtr_semantics.specs.Objects.{value_datum, is_number_among}
use Rattle.qvtr_semantics.specs.Outs.{value_of_datum}
use Rattle.repair_semantics.specs.declared.term.Term.{Term}
use Rattle.repair_semantics.specs.declared.demand.Demand.{Demand}
use Rattle.repair_semantics.specs.TargetItems.{target_meta_number}
use Rattle.repair_semantics.specs.Demands.{demanded_terms}
use Rattle.repair_semantics.specs.Claims.{Held, Fact, Spot, Said, Claim, claims_of, is_against, same_held}
use Rattle.repair_semantics.specs.Conflicts.{fact_of}
use Rattle.repair_semantics.specs.Images.{same_number, held_in, holds, image}
use Rattle.repair_semantics.specs.Deletions.{managed_classes, images_of, is_unneeded, container_of, is_deleted, is_deleted_within, stays}
use Rattle.repair_semantics.specs.CandidateObjects.{CandidateObject, fresh_terms, number_of, term_number}
use Rattle.repair_semantics.specs.Candidates.{held_by_number, fact_by_number, claims_by_number, element_at, claimed_at, held_order, is_left, fact_at, kept_at, with_claimed, contents_at, value_held, partner_held, slot_with, slots_of, old_object, old_objects, candidate_with, candidate}
use Rattle.repair_semantics.specs.Terms.{each_once}
use Rattle.reading_laws.specs.Readings.{AllStand, HaveObjects}
use Rattle.repair_laws.proofs.ClaimLaws.{held_there, held_link, SaidStands, AllClaimed, both_claimed, fact_claimed, held_unopposed}

-- ---- lists

all_kept : {X : Type 0} (test : X → Bool) (xs : List X) → ((x : X) → Contains xs x → test x ≡ true) → filter test xs ≡ xs
all_kept test [] h = refl
all_kept test (x ∷ xs) h =
    ap (λ b. cond b (x ∷ filter test xs) (filter test xs)) (h x (contains_first x xs)) ∙ ap (λ ys. x ∷ ys) (all_kept test xs (λ y c. h y (contains_later y x xs c)))

none_kept : {X : Type 0} (test : X → Bool) (xs : List X) → ((x : X) → Contains xs x → test x ≡ false) → filter test xs ≡ []
none_kept test [] h = refl
none_kept test (x ∷ xs) h = ap (λ b. cond b (x ∷ filter test xs) (filter test xs)) (h x (contains_first x xs)) ∙ none_kept test xs (λ y c. h y (contains_later y x xs c))

over_all : {X : Type 0} (xs : List (Option X)) (f : ℕ → Option X) → ((i : ℕ) → f i ≡ get_or xs i None) → map f (range_with_len 0 (length xs)) ≡ xs
over_all xs f same =
    let count : length (map f (range_with_len 0 (length xs))) ≡ length xs = length-map-range_with_len f 0 (length xs) in
    ext_get_or None (map f (range_with_len 0 (length xs))) xs count (λ i within. get_or-map-range_with_len f 0 (length xs) i i None (omega (arith, within, count)) (omega arith) ∙ same i)

-- ---- slots as they are held

numbers_of : (ns : List ℕ) → filter_map partner_held (map (λ k. Held.object k) ns) ≡ ns
numbers_of [] = refl
numbers_of (n ∷ ns) = ap (λ xs. n ∷ xs) (numbers_of ns)

no_values_of : (ns : List ℕ) → filter_map value_held (map (λ k. Held.object k) ns) ≡ []
no_values_of [] = refl
no_values_of (n ∷ ns) = no_values_of ns

value_back : (meta : ℕ) (v : Value) → value_of_datum (value_datum meta v) ≡ Some v
value_back meta (values.Str s) = refl
value_back meta (values.Int i) = refl
value_back meta (values.Bool b) = refl
value_back meta (values.Lit e n) = refl

values_of : (meta : ℕ) (vs : List Value) → filter_map value_held (map (λ v. Held.datum (value_datum meta v)) vs) ≡ vs
values_of meta [] = refl
values_of meta (v ∷ vs) = ap (λ o. cons_option o (filter_map value_held (map (λ w. Held.datum (value_datum meta w)) vs))) (value_back meta v) ∙ ap (λ xs. v ∷ xs) (values_of meta vs)

no_numbers_of : (meta : ℕ) (vs : List Value) → filter_map partner_held (map (λ v. Held.datum (value_datum meta v)) vs) ≡ []
no_numbers_of meta [] = refl
no_numbers_of meta (v ∷ vs) = no_numbers_of meta vs

slot_by : (values : List Value) (partners : List ℕ) (s : Slot) → values ≡ s.values → partners ≡ s.partners → ◌≡◌ {A = Slot} (record { values = values; partners = partners }) s
slot_by values partners s v p = ap (λ vs. record { values = vs; partners = partners }) v ∙ ap (λ ps. record { values = s.values; partners = ps }) p

module _ (program : Program) (m : ModelData) (valid : Valid m) where
  -- what is held at a property of an object's class is its slot
  slot_held : (o p class : ℕ) → class_at m o ≡ Some class → Contains (props_of m.meta class) p → slot_with (held_in program m o p) ≡ slot_in m.meta p (object_at m o)
  slot_held o p class is has = by (is_class_type (type_of m.meta p)) refl
    where
      by : (c : Bool) → is_class_type (type_of m.meta p) ≡ c
          → slot_with (if c then map (λ k. Held.object k) (partners_at m o p) else map (λ v. Held.datum (value_datum (target_meta_number program) v)) (values_at m o p))
          ≡ slot_in m.meta p (object_at m o)
      by true reference =
          let well = valid.kept.references o p (record { class = class; class_is = is; has = has; reference = reference }) in
          slot_by (filter_map value_held (map (λ k. Held.object k) (partners_at m o p))) (filter_map partner_held (map (λ k. Held.object k) (partners_at m o p)))
          (slot_in m.meta p (object_at m o)) (no_values_of (partners_at m o p) ∙ sym well.values) (numbers_of (partners_at m o p))
      by false attribute =
          let well = valid.kept.attributes o p (record { class = class; class_is = is; has = has; attribute = attribute }) in
          slot_by (filter_map value_held (map (λ v. Held.datum (value_datum (target_meta_number program) v)) (values_at m o p)))
          (filter_map partner_held (map (λ v. Held.datum (value_datum (target_meta_number program) v)) (values_at m o p)))
          (slot_in m.meta p (object_at m o)) (values_of (target_meta_number program) (values_at m o p)) (no_numbers_of (target_meta_number program) (values_at m o p) ∙ sym well.partners)

  -- ---- claims that stand add nothing

  module _ (live : ℕ → Bool) (lives : (o : ℕ) → is_some (object_at m o) ≡ true → live o ≡ true) (claims : List (Claim ℕ)) (all : AllClaimed program m claims) where
    live_class : (o class : ℕ) → class_at m o ≡ Some class → is_some (object_at m o) ≡ true
    live_class o class is = by (object_at m o) is
      where
        by : (x : Option Object) → option_map (λ ob. ob.class) x ≡ Some class → is_some x ≡ true
        by None h = absurd (cc)
        by (Some ob) h = refl

    left : (o p : ℕ) (h : Held ℕ) → holds program m o p h ≡ true → is_left live h ≡ true
    left o p (Held.datum d) held = refl
    left o p (Held.object b) held =
        let partner = linked_partner m p o b (sound_of m valid.kept) (held_link program m o p b held) in
        lives b (live_class b partner.class partner.class_is)

    all_are_kept : (o p : ℕ) → kept_at program m live claims o p ≡ held_in program m o p
    all_are_kept o p =
        all_kept (λ h. is_left live h && not (is_against m.meta same_number claims (fact_at o p h))) (held_in program m o p) (λ h has.
        let held : holds program m o p h ≡ true = held_there h (held_in program m o p) has in
        ap (λ b. b && not (is_against m.meta same_number claims (fact_at o p h))) (left o p h held) ∙ ap not (held_unopposed program m valid claims o p h all held))

    element_held : (o p : ℕ) (s : Spot ℕ) (x : Said ℕ) (h : Held ℕ) → SaidStands program m s x → element_at o p s x ≡ Some h → holds program m o p h ≡ true
    element_held o p (Spot.slot a q) (Said.element i) h stands is = by (a == o) refl (q == p) refl is
      where
        by : (x : Bool) → (a == o) ≡ x → (y : Bool) → (q == p) ≡ y → (if x && y then Some i else None) ≡ Some h → holds program m o p h ≡ true
        by true objects true props e =
            let object : a ≡ o = grind (arith, nat_tests) in
            let prop : q ≡ p = grind (arith, nat_tests) in
            let same : i ≡ h = cc in
            ap (λ z. holds program m z p h) (sym object) ∙ ap (λ z. holds program m a z h) (sym prop) ∙ ap (holds program m a q) (sym same) ∙ stands
        by true objects false props e = absurd (cc)
        by false objects y props e = absurd (cc)
    element_held o p (Spot.slot a q) (Said.within b r) h stands is = absurd stands
    element_held o p (Spot.container a) x h stands is = absurd (cc)

    nothing_new : (o p : ℕ) (cs : List (Claim ℕ)) → AllClaimed program m cs
        → filter (λ h. not (list_any (same_held same_number h) (held_in program m o p))) (filter_map (λ (c : Claim ℕ). element_at o p c.spot c.said) cs) ≡ []
    nothing_new o p [] stand = refl
    nothing_new o p (c ∷ cs) stand = by (element_at o p c.spot c.said) refl (nothing_new o p cs stand.1)
      where
        by : (e : Option (Held ℕ)) → element_at o p c.spot c.said ≡ e
            → filter (λ h. not (list_any (same_held same_number h) (held_in program m o p))) (filter_map (λ (d : Claim ℕ). element_at o p d.spot d.said) cs) ≡ []
            → filter (λ h. not (list_any (same_held same_number h) (held_in program m o p))) (cons_option e (filter_map (λ (d : Claim ℕ). element_at o p d.spot d.said) cs)) ≡ []
        by None is more = more
        by (Some h) is more =
            ap (λ b. cond (not b) (h ∷ filter (λ i. not (list_any (same_held same_number i) (held_in program m o p))) (filter_map (λ (d : Claim ℕ). element_at o p d.spot d.said) cs))
            (filter (λ i. not (list_any (same_held same_number i) (held_in program m o p))) (filter_map (λ (d : Claim ℕ). element_at o p d.spot d.said) cs)))
            (element_held o p c.spot c.said h stand.0 is) ∙ more

    contents_stay : (o p : ℕ) → contents_at program m live claims o p ≡ held_in program m o p
    contents_stay o p =
        ap (λ hs. with_claimed hs (claimed_at claims o p)) (all_are_kept o p)
        ∙ ap (λ hs. held_in program m o p ++ each_once held_order hs) (nothing_new o p claims all)
        ∙ append-nil (held_in program m o p)

    slots_stay : (o : ℕ) (ob : Object) → object_at m o ≡ Some ob → slots_of program m live claims o ob.class ≡ ob.slots
    slots_stay o ob is =
        let props = props_of m.meta ob.class in
        let count : length (slots_of program m live claims o ob.class) ≡ length props = length-map props (λ p. slot_with (contents_at program m live claims o p)) in
        let slots : length ob.slots ≡ length props = (valid.kept.objects o ob is).slots in
        ext_get_or no_slot (slots_of program m live claims o ob.class) ob.slots (count ∙ sym slots) (λ i within. by i (omega (arith, within, count)))
      where
        by : (i : ℕ) → i < length (props_of m.meta ob.class) → get_or (slots_of program m live claims o ob.class) i no_slot ≡ get_or ob.slots i no_slot
        by i within =
            let p : ℕ = get_or (props_of m.meta ob.class) i 0 in
            let class : class_at m o ≡ Some ob.class = ap (option_map (λ (x : Object). x.class)) is in
            get_or-map (λ q. slot_with (contents_at program m live claims o q)) (props_of m.meta ob.class) i 0 no_slot within
            ∙ ap slot_with (contents_stay o p)
            ∙ slot_held o p ob.class class (i, within, get_or_default (props_of m.meta ob.class) i p 0 within)
            ∙ ap (slot_in m.meta p) is
            ∙ ap (λ k. get_or ob.slots k no_slot) (property_place m.meta ob.class i 0 within)

    object_stays : (o : ℕ) → old_object program m live claims o (object_at m o) ≡ object_at m o
    object_stays o = by (object_at m o) refl
      where
        by : (x : Option Object) → object_at m o ≡ x → old_object program m live claims o x ≡ x
        by None is = refl
        by (Some ob) is =
            ap (λ b. if b then Some (record ob { slots = slots_of program m live claims o ob.class }) else None) (lives o (ap is_some is))
            ∙ ap (λ ss. Some (record ob { slots = ss })) (slots_stay o ob is)

    pub model_stays : candidate_with program m live claims [] ≡ m
    model_stays =
        ap (λ os. record m { objects = os }) (append-nil (old_objects program m live claims) ∙ over_all m.objects (λ o. old_object program m live claims o (object_at m o)) object_stays)

  -- ---- nothing is deleted

  kept_within : (classes images : List ℕ) → ((o : ℕ) → is_unneeded m classes images o ≡ false) → (n o : ℕ) → is_deleted_within m classes images n o ≡ false
  kept_within classes images needed zero o = needed o
  kept_within classes images needed (suc n) o =
      ap (λ b. b || (not (is_number_among o images) && option_map_or (is_deleted_within m classes images n) (container_of m o) false)) (needed o)
      ∙ by (is_number_among o images) (container_of m o) (kept_within classes images needed n)
    where
      by : (b : Bool) (a : Option ℕ) → ((k : ℕ) → is_deleted_within m classes images n k ≡ false) → (not b && option_map_or (is_deleted_within m classes images n) a false) ≡ false
      by true a kept = refl
      by false None kept = refl
      by false (Some a) kept = kept a

  all_stay : (classes images : List ℕ) → ((o : ℕ) → is_unneeded m classes images o ≡ false) → (o : ℕ) → is_some (object_at m o) ≡ true → stays m classes images o ≡ true
  all_stay classes images needed o live = ap (λ b. b && not (is_deleted m classes images o)) live ∙ ap not (kept_within classes images needed (length m.objects) o)

  -- ---- demands that stand

  module _ (terms : List Term) where
    number_is : (t : Term) (o : ℕ) → image program m t ≡ Some o → term_number program m terms t ≡ Some o
    number_is t o is = ap (λ x. number_of program m terms (option_map_or (λ n. CandidateObject.old n) x (CandidateObject.fresh t))) is

    held_number : (h : Held Term) (i : Held ℕ) → held_by_number (image program m) h ≡ Some i → held_by_number (term_number program m terms) h ≡ Some i
    held_number (Held.datum d) i is = is
    held_number (Held.object t) i is = by (image program m t) refl is
      where
        by : (x : Option ℕ) → image program m t ≡ x → option_map (λ n. Held.object n) x ≡ Some i → option_map (λ n. Held.object n) (term_number program m terms t) ≡ Some i
        by None e h = absurd (cc)
        by (Some n) e h = ap (option_map (λ k. Held.object k)) (number_is t n e) ∙ h

    demands_claimed : (demands : List Demand) → AllStand program m (image program m) demands → AllClaimed program m (claims_by_number m.meta (term_number program m terms) demands)
    demands_claimed [] stand = tt
    demands_claimed (d ∷ ds) stand =
        let here = stand d (contains_first d ds) in
        let f : Fact ℕ = record { owner = here.owner; prop = d.prop.0; holds = here.held } in
        let fact : fact_by_number (term_number program m terms) (fact_of d) ≡ Some f =
        ap (option_and_then (λ o. option_map (λ h. record { owner = o; prop = d.prop.0; holds = h }) (held_by_number (term_number program m terms) (fact_of d).holds))) (number_is d.owner here.owner here.owner_is)
        ∙ ap (option_map (λ h. record { owner = here.owner; prop = d.prop.0; holds = h })) (held_number (fact_of d).holds here.held here.held_is) in
        subst (λ x. AllClaimed program m (flat_map (claims_of m.meta) (cons_option x (filter_map (λ e. fact_by_number (term_number program m terms) (fact_of e)) ds)))) (sym fact)
        (both_claimed program m (claims_of m.meta f) (claims_by_number m.meta (term_number program m terms) ds)
        (fact_claimed program m valid here.owner d.prop.0 here.held here.holds) (demands_claimed ds (λ e c. stand e (contains_later e d ds c))))

    none_fresh : HaveObjects terms (image program m) → fresh_terms program m terms ≡ []
    none_fresh have = none_kept (λ t. is_none (image program m t)) terms (λ t has. ap (λ x. is_none x) (have t has).1)

  pub nothing_changes : (demands : List Demand) → ((o : ℕ) → is_unneeded m (managed_classes program) (images_of program m (demanded_terms demands)) o ≡ false)
      → HaveObjects (demanded_terms demands) (image program m) → AllStand program m (image program m) demands → candidate program m demands ≡ m
  nothing_changes demands needed have stand =
      let terms = demanded_terms demands in
      let live : ℕ → Bool = stays m (managed_classes program) (images_of program m terms) in
      let claims : List (Claim ℕ) = claims_by_number m.meta (term_number program m terms) demands in
      ap (candidate_with program m live claims) (none_fresh terms have)
      ∙ model_stays live (all_stay (managed_classes program) (images_of program m terms) needed) claims (demands_claimed terms demands stand)
