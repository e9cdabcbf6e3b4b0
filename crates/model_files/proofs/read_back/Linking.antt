-- The tree of what is written of a model whose objects are all there is that model: its identifiers, classes, values and links.
use Rattle.std.proofs.Common.{◌≡◌, ℕ, zero, suc, ◌+◌, ◌<◌, ◌≤◌, Bool, true, false, List, [], ◌∷◌, ◌++◌, length, get_or, map, chars, encode_utf8_all, refl, sym, ap, ap₂, ◌∙◌, subst, arith, append-nil, Option, None, Some, inl, inr}
use Rattle.std.specs.Prelude.{◌||◌, nat_eq, Contains, filter_map, slice_get, position, is_some}
use Rattle.std.specs.List.{AllByRecursion, cons_option, list_any, range_with_len}
use Rattle.std.specs.Option.{option_map, unwrap_or}
use Rattle.std.proofs.lemmas.Bool.{cases_lt, true≢false}
use Rattle.std.proofs.lemmas.List.{get_or-map, get_or_past, length-map}
use Rattle.std.proofs.lemmas.List.FromFn.{length-range_with_len, get_or-range_with_len}
use Rattle.std.proofs.lemmas.Option.{slice_get-get_or}
use Rattle.serde_json.specs.Data.{Data}
use Rattle.object_tables.specs.declared.limit.TheConstants.{MAX_DEPTH, MAX_OBJECTS}
use Rattle.mof_metamodel.specs.Characters.{same_name}
use Rattle.mof_metamodel.specs.Metamodels.{prop_at, type_of, united}
use Rattle.mof_metamodel.proofs.SearchLemmas.{position_alone}
use Rattle.object_tables.specs.Containment.{IsDepth}
use Rattle.object_tables.specs.Models.{ModelData, object_at, class_at, id_at, values_at, partners_at, is_class_type, live_count, IsLive, IsAttributeOf, IsReferenceOf}
use Rattle.object_tables.specs.Validity.{Valid, IsPropertyOf}
use Rattle.object_tables.proofs.ContainmentLemmas.{live-below}
use Rattle.object_tables.proofs.ListLemmas.{Contains-from_map}
use Rattle.object_tables.proofs.ModelLemmas.{live_class, live_from_class}
use Rattle.model_assembly.specs.declared.form.Form.{Form}
use Rattle.model_assembly.specs.declared.form.Form.TheVariants as forms
use Rattle.model_assembly.specs.Content.{Content, written_values}
use Rattle.model_assembly.specs.Elements.{concrete_class}
use Rattle.model_assembly.specs.Forms.{form_of}
use Rattle.model_assembly.specs.Held.{IsHeldModel}
use Rattle.model_assembly.specs.Links.{is_some_target, speaks, Names}
use Rattle.model_assembly.specs.Profile.{id_text, class_text, object_props, props_or_none, live_numbers}
use Rattle.model_assembly.specs.declared.fault.Externs.TheVariants as externs
use Rattle.model_assembly.specs.References.{fragment_target}
use Rattle.model_assembly.specs.Source.{Source, attr_text, all_ids, all_classes, object_count, id_of, class_of, targets_of, element_targets, targets_at, number_of, target_number, named_at}
use Rattle.model_assembly.specs.Values.{without_repeats}
use Rattle.mof_metamodel.proofs.Facts.{nothing_in}
use Rattle.model_assembly.proofs.assembling.ListLaws.{contains_tail}
use Rattle.mof_metamodel.proofs.Facts.{contains_first}
use Rattle.xmi_profile.proofs.WritingForms.{class_typed, is_reference}
use Rattle.xmi_profile.proofs.written.Items.{class_is}
use Rattle.xmi_profile.proofs.written.Known.{partner_live}
use Rattle.xmi_profile.proofs.written.Linking.{from_any, to_any, id_known, same_id, united_once}
use Rattle.xmi_profile.proofs.written.Named.{has_item, partners_by, NamesPartners, links_written}
use Rattle.xmi_profile.proofs.written.Spotless.{IsTold, WritesLinks, none_by}
use Rattle.xmi_profile.proofs.written.Texts.{unmet_all}
use Rattle.model_files.specs.CanonJson.{partner_data, data_by, slot_data, slots_data, model_data, canon_json}
use Rattle.model_files.specs.JsonContent.{Written, objects_of, class_in, is_reference as is_item, item_text, with_blanks, slots_list, source_of}
use Rattle.model_files.proofs.JsonFiledLaws.{attr_text_is, no_element_targets, slot_text, get_mapped, values_written}
use Rattle.model_files.proofs.JsonFiledReferences.{of_object, slot_of}
use Rattle.model_files.proofs.JsonFiledValues.{objects_values}
use Rattle.model_files.proofs.JsonLinkLaws.{sound_from, nothing_told, few_objects}
use Rattle.model_files.proofs.JsonTree.{IsKnownObject, IsKnownSlot}
use Rattle.model_files.proofs.JsonTreeLaws.{IsSound, at_number, all_ids_are, all_classes_are}
use Rattle.model_files.proofs.JsonValueLaws.{words_are}
use Rattle.model_files.proofs.read_back.Members.{slots_apart}
use Rattle.model_files.proofs.read_back.Objects.{written, objects_are, has_objects}
use Rattle.model_files.proofs.read_back.Slots.{each_mapped, are_slots, are_in_order, are_spelled, id_back, is_named}
use Rattle.model_files.proofs.read_back.Values.{found_at, slot_is_found, valued, values_found, present, slot_present, slot_absent, values_back}

-- so it is of each item
abbrev Each : {X : Type 0} → (X → Type 0) → List X → Type 0
Each {X = X} P xs = (x : X) → Contains xs x → P x

-- ---- lists

range_get : {X : Type 0} (f : ℕ → X) (n i : ℕ) → i < n → slice_get (map f (range_with_len 0 n)) i ≡ Some (f i)
range_get f n i l =
    let count = length-range_with_len 0 n in
    let long = length-map (range_with_len 0 n) f in
    let at : get_or (range_with_len 0 n) i 0 ≡ 0 + i = get_or-range_with_len 0 n i 0 l in
    let same : 0 + i ≡ i = omega arith in
    slice_get-get_or (map f (range_with_len 0 n)) i (f 0) (omega (arith, l, count, long))
    ∙ ap (λ x. Some x) (get_or-map f (range_with_len 0 n) i 0 (f 0) (omega (arith, l, count)) ∙ ap f (at ∙ same))

range_past : {X : Type 0} (f : ℕ → X) (n i : ℕ) → n ≤ i → slice_get (map f (range_with_len 0 n)) i ≡ None
range_past f n i l =
    let count = length-range_with_len 0 n in
    let long = length-map (range_with_len 0 n) f in
    past (map f (range_with_len 0 n)) i (omega (arith, l, count, long))
  where
    past : {Y : Type 0} (xs : List Y) (k : ℕ) → length xs ≤ k → slice_get xs k ≡ None
    past [] k h = refl
    past (x ∷ xs) zero h = absurd (omega (arith, h))
    past (x ∷ xs) (suc k) h = past xs k (omega (arith, h))

pub map_twice : {X Y Z : Type 0} (f : Y → Z) (g : X → Y) (xs : List X) → map f (map g xs) ≡ map (λ x. f (g x)) xs
map_twice f g [] = refl
map_twice {Z = Z} f g (x ∷ xs) = ap (λ (zs : List Z). f (g x) ∷ zs) (map_twice f g xs)

pub map_alike : {X Y : Type 0} (f g : X → Y) (xs : List X) → ((x : X) → Contains xs x → f x ≡ g x) → map f xs ≡ map g xs
map_alike f g [] h = refl
map_alike {Y = Y} f g (x ∷ xs) h = ap₂ (λ (y : Y) (ys : List Y). y ∷ ys) (h x (contains_first x xs)) (map_alike f g xs (λ z c. h z (contains_tail x z xs c)))

module _ (m : ModelData) (v : Valid m) (shallow : (o d : ℕ) → IsLive m o → IsDepth m o d → d ≤ MAX_DEPTH) (held : IsHeldModel m) (few : live_count m ≤ MAX_OBJECTS)
    (dense : live_numbers m ≡ range_with_len 0 (length m.objects)) (lives : (o : ℕ) → o < length m.objects → IsLive m o) where
  abbrev value : Data
  value = model_data m

  abbrev pub s : Source
  s = source_of m.meta value

  sound : IsSound m.meta value
  sound = sound_from m.meta v.kept.well (canon_json m) value (has_objects m v shallow held few)

  abbrev written_at : ℕ → Written
  written_at o = written m v shallow held o

  -- ---- objects

  listed : objects_of value ≡ map written_at (range_with_len 0 (length m.objects))
  listed = objects_are m v shallow held ∙ ap (map written_at) dense

  at_object : (o : ℕ) → o < length m.objects → slice_get (objects_of value) o ≡ Some (written_at o)
  at_object o l = ap (λ (ws : List Written). slice_get ws o) listed ∙ range_get written_at (length m.objects) o l

  past_objects : (o : ℕ) → length m.objects ≤ o → slice_get (objects_of value) o ≡ None
  past_objects o l = ap (λ (ws : List Written). slice_get ws o) listed ∙ range_past written_at (length m.objects) o l

  known : (o : ℕ) → o < length m.objects → IsKnownObject m.meta (written_at o)
  known o l = at_number (IsKnownObject m.meta) (objects_of value) o (written_at o) sound.right.0 (at_object o l)

  class_read : (o c : ℕ) → class_at m o ≡ Some c → class_in m.meta (written_at o) ≡ c
  class_read o c e = ap (λ (x : Option ℕ). unwrap_or x 0) (class_is m v.kept (λ x. x) o (live_from_class m o c e) ∙ e)

  ids : all_ids s ≡ map (id_text m) (range_with_len 0 (length m.objects))
  ids = all_ids_are m.meta value sound ∙ ap (map (λ w. w.id)) listed ∙ map_twice (λ w. w.id) written_at (range_with_len 0 (length m.objects))

  pub counted : object_count s ≡ length m.objects
  counted = ap length ids ∙ length-map (range_with_len 0 (length m.objects)) (id_text m) ∙ length-range_with_len 0 (length m.objects)

  id_read : (o : ℕ) → o < length m.objects → id_at m o ≡ Some (id_of s o)
  id_read o l =
      id_known m v shallow o (lives o l)
      ∙ ap (λ x. Some x) (sym (ap (λ (xs : List (List ℕ)). unwrap_or (slice_get xs o) []) ids ∙ ap (λ (x : Option (List ℕ)). unwrap_or x []) (range_get (id_text m) (length m.objects) o l)))

  number_read : (b : ℕ) → IsLive m b → number_of s (id_text m b) ≡ Some b
  number_read b live =
      let n : ℕ = length m.objects in
      let within : b < n = live-below m b live in
      let all : List (List ℕ) = map (id_text m) (range_with_len 0 n) in
      let count = length-range_with_len 0 n in
      let long = length-map (range_with_len 0 n) (id_text m) in
      ap (position (same_name (id_text m b))) ids
      ∙ ap (λ (t : List ℕ). position (same_name t) all) (sym (at n b within))
      ∙ position_alone (λ x. x) all b [] (omega (arith, within, count, long))
      (λ k l same. (
      let lk : k < n = omega (arith, l, count, long) in
      same_id m v shallow k b (lives k lk) live (sym (at n k lk) ∙ same ∙ at n b within)))
    where
      at : (n k : ℕ) → k < n → get_or (map (id_text m) (range_with_len 0 n)) k [] ≡ id_text m k
      at n k l =
          let count = length-range_with_len 0 n in
          let where_is : get_or (range_with_len 0 n) k 0 ≡ 0 + k = get_or-range_with_len 0 n k 0 l in
          let same : 0 + k ≡ k = omega arith in
          get_or-map (id_text m) (range_with_len 0 n) k 0 [] (omega (arith, l, count)) ∙ ap (id_text m) (where_is ∙ same)

  class_past : (o : ℕ) → length m.objects ≤ o → class_at m o ≡ None
  class_past o l = ap (option_map (λ ob. ob.class)) (get_or_past m.objects o None l)

  pub classes : (o : ℕ) → class_of s o ≡ class_at m o
  classes o = elim (cases_lt o (length m.objects)) [
    | inl l ↦ (
        let (c, e) = live_class m o (lives o l) in
        ap (λ (cs : List (Option ℕ)). unwrap_or (slice_get cs o) None) (all_classes_are m.meta value sound)
        ∙ ap (λ (x : Option (Option ℕ)). unwrap_or x None) (get_mapped (λ w. Some (class_in m.meta w)) (objects_of value) o ∙ ap (option_map (λ w. Some (class_in m.meta w))) (at_object o l))
        ∙ ap (λ x. Some x) (class_read o c e) ∙ sym e
        )
    | inr l ↦
        ap (λ (cs : List (Option ℕ)). unwrap_or (slice_get cs o) None) (all_classes_are m.meta value sound)
        ∙ ap (λ (x : Option (Option ℕ)). unwrap_or x None) (get_mapped (λ w. Some (class_in m.meta w)) (objects_of value) o ∙ ap (option_map (λ w. Some (class_in m.meta w))) (past_objects o l))
        ∙ sym (class_past o l)
  ]

  has_property : (o c p : ℕ) → class_at m o ≡ Some c → Contains (props_or_none m.meta (Some c)) p → Contains (object_props m o) p
  has_property o c p e has = subst (λ (x : Option ℕ). Contains (props_or_none m.meta x) p) (sym e) has

  below : (o c : ℕ) → class_at m o ≡ Some c → o < length m.objects
  below o c e = live-below m o (live_from_class m o c e)

  -- ---- values

  pub values_read : (o p : ℕ) → IsAttributeOf m o p → values_at m o p ≡ written_values s o p
  values_read o p a =
      let c : ℕ = a.class in
      let l = below o c a.class_is in
      let has : Contains (object_props m o) p = has_property o c p a.class_is a.has in
      sym (unmet_all [] (values_at m o p) (λ w c (i, k, e). absurd (omega (arith, k))) (v.kept.attributes o p a).values.distinct)
      ∙ ap without_repeats
      (sym (values_found m.meta o p (objects_of value) (written_at o) (at_object o l) (known o l) (slots_apart (slots_data m o) (are_spelled m v shallow held o) (are_in_order m v shallow held o)) a.attribute
      ∙ ap (λ (k : ℕ). valued m.meta p (found_at m.meta k p (slots_list (slots_data m o)))) (class_read o c a.class_is)
      ∙ ap (valued m.meta p) (slot_present m v shallow held o c p a.class_is has) ∙ values_back m v shallow held o p a))
      ∙ values_written m.meta value sound o p
      (record {
        object = (let n = counted in omega (arith, l, n));
        has = subst (λ (x : Option ℕ). Contains (props_or_none m.meta x) p) (sym (classes o)) has;
        data_type = a.attribute;
      })

  -- ---- references

  -- what is written of partners
  abbrev words_by : ℕ → ℕ → Form → Option (List ℕ)
  words_by o p f = slot_text (present (data_by m o p f))

  attr_read : (o p : ℕ) → IsReferenceOf m o p → attr_text s o p ≡ words_by o p (form_of m.meta p)
  attr_read o p r =
      let c : ℕ = r.class in
      let l = below o c r.class_is in
      let has : Contains (object_props m o) p = has_property o c p r.class_is r.has in
      attr_text_is m.meta value sound o p ∙ ap (λ (x : Option Written). slot_text (of_object m.meta p x)) (at_object o l)
      ∙ ap slot_text
      (slot_is_found m.meta (class_in m.meta (written_at o)) p (slots_list (slots_data m o)) (known o l).slots r.reference
      ∙ ap (λ (k : ℕ). found_at m.meta k p (slots_list (slots_data m o))) (class_read o c r.class_is)
      ∙ slot_present m v shallow held o c p r.class_is has)

  targets_read : (o p : ℕ) → IsReferenceOf m o p → targets_at s o p ≡ targets_of (words_by o p (form_of m.meta p))
  targets_read o p r = ap₂ (λ (a : Option (List ℕ)) ts. targets_of a ++ ts) (attr_read o p r) (no_element_targets m.meta value sound o p) ∙ append-nil (targets_of (words_by o p (form_of m.meta p)))

  partners_live : (o p b : ℕ) → Contains (partners_at m o p) b → IsLive m b
  partners_live o p b c = partner_live m v.kept o p b c

  texts_back : (bs : List ℕ) → map item_text (map (partner_data m) bs) ≡ map (id_text m) bs
  texts_back bs = map_twice item_text (partner_data m) bs ∙ map_alike (λ b. chars (encode_utf8_all (id_text m b))) (id_text m) bs (λ b c. id_back m v shallow held b)

  targets_are : (bs : List ℕ) → ((b : ℕ) → Contains bs b → IsLive m b) → targets_of (slot_text (present (map (partner_data m) bs))) ≡ map (fragment_target externs.None [] []) (map (id_text m) bs)
  targets_are [] h = refl
  targets_are (b ∷ bs) h =
      ap (map (fragment_target externs.None [] [])) (words_are (map (partner_data m) (b ∷ bs)) (each_mapped (λ d. is_item d ≡ true) (partner_data m) (b ∷ bs) (λ x c. is_named m v shallow held x (h x c))) ∙ texts_back (b ∷ bs))

  numbers_read : (bs : List ℕ) → ((b : ℕ) → Contains bs b → IsLive m b) → filter_map (target_number s) (map (fragment_target externs.None [] []) (map (id_text m) bs)) ≡ bs
  numbers_read [] h = refl
  numbers_read (b ∷ bs) h = ap₂ (λ (x : Option ℕ) (ys : List ℕ). cons_option x ys) (number_read b (h b (contains_first b bs))) (numbers_read bs (λ c k. h c (contains_tail b c bs k)))

  no_form : (p : ℕ) (f : Form) → form_of m.meta p ≡ f → is_class_type (type_of m.meta p) ≡ true → is_reference f ≡ false → ⊥
  no_form p f e t h = true≢false (sym t ∙ class_typed m.meta p f e ∙ h)

  named_by_form : (o p : ℕ) → IsReferenceOf m o p → (f : Form) → form_of m.meta p ≡ f → united [] (filter_map (target_number s) (targets_of (words_by o p f))) ≡ partners_by m o p f
  named_by_form o p r f e = by f e
    where
      of_partners : united [] (filter_map (target_number s) (targets_of (slot_text (present (map (partner_data m) (partners_at m o p)))))) ≡ partners_at m o p
      of_partners =
          ap (λ ts. united [] (filter_map (target_number s) ts)) (targets_are (partners_at m o p) (partners_live o p))
          ∙ ap (united []) (numbers_read (partners_at m o p) (partners_live o p)) ∙ united_once [] (partners_at m o p) (v.kept.references o p r).distinct

      by : (f : Form) → form_of m.meta p ≡ f → united [] (filter_map (target_number s) (targets_of (words_by o p f))) ≡ partners_by m o p f
      by forms.Identifiers e = of_partners
      by forms.Parts e = of_partners
      by forms.Nesting e = refl
      by forms.Attribute e = absurd (no_form p forms.Attribute e r.reference refl)
      by forms.Elements e = absurd (no_form p forms.Elements e r.reference refl)

  partners_named : (o p : ℕ) → IsReferenceOf m o p → named_at s o p ≡ partners_by m o p (form_of m.meta p)
  partners_named o p r = ap (λ ts. united [] (filter_map (target_number s) ts)) (targets_read o p r) ∙ named_by_form o p r (form_of m.meta p) refl

  speaking_by_form : (o p : ℕ) → is_class_type (type_of m.meta p) ≡ true → (f : Form) → form_of m.meta p ≡ f → (is_some (words_by o p f) || false) ≡ has_item (partners_by m o p f)
  speaking_by_form o p t f e = by f e
    where
      of_partners : (bs : List ℕ) → (is_some (slot_text (present (map (partner_data m) bs))) || false) ≡ has_item bs
      of_partners [] = refl
      of_partners (b ∷ bs) = refl

      by : (f : Form) → form_of m.meta p ≡ f → (is_some (words_by o p f) || false) ≡ has_item (partners_by m o p f)
      by forms.Identifiers e = of_partners (partners_at m o p)
      by forms.Parts e = of_partners (partners_at m o p)
      by forms.Nesting e = refl
      by forms.Attribute e = absurd (no_form p forms.Attribute e t refl)
      by forms.Elements e = absurd (no_form p forms.Elements e t refl)

  speaking_is : (o p : ℕ) → IsReferenceOf m o p → speaks s o p ≡ has_item (partners_by m o p (form_of m.meta p))
  speaking_is o p r =
      ap₂ (λ (a : Option (List ℕ)) ts. is_some a || is_some_target ts) (attr_read o p r) (no_element_targets m.meta value sound o p)
      ∙ speaking_by_form o p r.reference (form_of m.meta p) refl

  -- ---- who names

  nothing_named : (a q : ℕ) → attr_text s a q ≡ None → named_at s a q ≡ []
  nothing_named a q e =
      ap₂ (λ (x : Option (List ℕ)) ts. united [] (filter_map (target_number s) (targets_of x ++ ts))) e (no_element_targets m.meta value sound a q)

  silent : (a q : ℕ) → (Contains (object_props m a) q → ⊥) → attr_text s a q ≡ None
  silent a q none = elim (cases_lt a (length m.objects)) [
    | inl l ↦ (
        let (c, e) = live_class m a (lives a l) in
        attr_text_is m.meta value sound a q ∙ ap (λ (x : Option Written). slot_text (of_object m.meta q x)) (at_object a l)
        ∙ ap (λ (k : ℕ). slot_text (slot_of m.meta k q (slots_list (slots_data m a)))) (class_read a c e)
        ∙ ap slot_text (slot_absent m v shallow held a c q e none (slots_data m a) (are_slots m v shallow held a))
        )
    | inr l ↦ attr_text_is m.meta value sound a q ∙ ap (λ (x : Option Written). slot_text (of_object m.meta q x)) (past_objects a l)
  ]

  namer : (q a b : ℕ) → Names s q a b → Contains (object_props m a) q
  namer q a b h = by (list_any (nat_eq q) (object_props m a)) refl
    where
      by : (t : Bool) → list_any (nat_eq q) (object_props m a) ≡ t → Contains (object_props m a) q
      by true e = from_any q (object_props m a) e
      by false e = absurd (true≢false (sym h ∙ ap (list_any (nat_eq b)) (nothing_named a q (silent a q (λ c. true≢false (sym (to_any q (object_props m a) c) ∙ e))))))

  names_partners : NamesPartners s m.objects
  names_partners = record { namer = namer; named = partners_named; speaking = speaking_is }

  -- ---- no fault

  told_by_form : (o p : ℕ) → is_class_type (type_of m.meta p) ≡ true → (f : Form) → form_of m.meta p ≡ f → Each (IsTold s m.objects o p) (targets_of (words_by o p f))
  told_by_form o p t f e = by f e
    where
      of_partners : Each (IsTold s m.objects o p) (targets_of (slot_text (present (map (partner_data m) (partners_at m o p)))))
      of_partners target k =
          let (id, cid, eid) = Contains-from_map (fragment_target externs.None [] []) (map (id_text m) (partners_at m o p)) target (subst (λ ts. Contains ts target) (targets_are (partners_at m o p) (partners_live o p)) k) in
          let (b, cb, eb) = Contains-from_map (id_text m) (partners_at m o p) id cid in
          record { object = b; number_is = ap (target_number s) (sym eid ∙ ap (fragment_target externs.None [] []) (sym eb)) ∙ number_read b (partners_live o p b cb); linked = cb }

      by : (f : Form) → form_of m.meta p ≡ f → Each (IsTold s m.objects o p) (targets_of (words_by o p f))
      by forms.Identifiers e = of_partners
      by forms.Parts e = of_partners
      by forms.Nesting e = λ target c. absurd (nothing_in target c)
      by forms.Attribute e = absurd (no_form p forms.Attribute e t refl)
      by forms.Elements e = absurd (no_form p forms.Elements e t refl)

  writes : WritesLinks s m.objects
  writes = record { classes = classes; told = λ o p target r c. told_by_form o p r.reference (form_of m.meta p) refl target (subst (λ ts. Contains ts target) (targets_read o p r) c); links = links_written s m.objects v names_partners }

  -- ---- the model

  pub content : Content s m
  content = record {
    faultless = record {
      at = nothing_told m.meta v.kept.well (canon_json m) value (has_objects m v shallow held few);
      by = none_by s m.objects v.kept writes;
    };
    meta = refl;
    count = sym counted;
    classes = λ o l. sym (classes o);
    ids = λ o l. id_read o (let n = counted in omega (arith, l, n));
    attributes = values_read;
    references = links_written s m.objects v names_partners;
  }

  pub objects_few : object_count s ≤ MAX_OBJECTS
  objects_few = few_objects m.meta v.kept.well (canon_json m) value (has_objects m v shallow held few)
