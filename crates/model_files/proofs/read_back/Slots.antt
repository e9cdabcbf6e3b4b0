-- The slots that are written of an object: each is one of its properties, and has what stands there.
use Rattle.std.proofs.Common.{◌≡◌, ◌≢◌, ℕ, zero, suc, ◌^◌, ◌<◌, ◌≤◌, ℤ, pos, negsuc, Bool, true, false, cond, List, [], ◌∷◌, map, chars, encode_utf8_all, codes, option_map, refl, sym, ap, ap₂, ◌∙◌, subst, arith, Option, None, Some}
use Rattle.std.specs.Prelude.{Contains, FitsSigned, IsTrue, is_some}
use Rattle.std.specs.Int.{w64}
use Rattle.std.specs.List.{AllByRecursion}
use Rattle.std.specs.Option.{option_or, unwrap_or}
use Rattle.std.proofs.lemmas.Bool.{cond-true, lt-ltb}
use Rattle.std.proofs.lemmas.List.Elements.{All-contains}
use Rattle.std.proofs.lemmas.Str.{chars-encodes}
use Rattle.serde_json.specs.Data.{Data, array, Members, no_members, member, put, string}
use Rattle.serde_json.specs.Find.{get_member, as_i64, of_integer}
use Rattle.serde_json.specs.View.{items_of}
use Rattle.serde_json.proofs.Views.{get_member-put, get_member-put_other}
use Rattle.mof_metamodel.specs.declared.desc.MetaDesc.{MetaDesc}
use Rattle.mof_metamodel.specs.declared.desc.PropType.{PropType}
use Rattle.mof_metamodel.specs.declared.desc.PropType.TheVariants as types
use Rattle.object_tables.specs.declared.limit.TheConstants.{MAX_DEPTH}
use Rattle.mof_metamodel.specs.Characters.{is_storable_text, is_identifier_text}
use Rattle.mof_metamodel.specs.Metamodels.{prop_number, type_of, literal_at, literal_number}
use Rattle.mof_metamodel.specs.WellMeta.{WellMeta}
use Rattle.mof_metamodel.proofs.DistinctLemmas.{IsOnce}
use Rattle.object_tables.specs.declared.value.Value.{Value}
use Rattle.object_tables.specs.declared.value.Value.TheVariants as values
use Rattle.object_tables.specs.Containment.{IsDepth}
use Rattle.object_tables.specs.Models.{ModelData, class_at, values_at, partners_at, is_class_type, is_value_of, IsLive, IsAttributeOf}
use Rattle.object_tables.specs.Validity.{Valid, IsPropertyOf}
use Rattle.model_assembly.specs.declared.form.Form.{Form}
use Rattle.model_assembly.specs.declared.form.Form.TheVariants as forms
use Rattle.model_assembly.specs.Forms.{form_of}
use Rattle.model_assembly.specs.Held.{IsHeldText, IsHeld, HasHeldNames, IsHeldModel}
use Rattle.model_assembly.specs.Profile.{prop_name, id_text, object_props, props_or_none}
use Rattle.model_assembly.specs.Values as texts
use Rattle.model_assembly.proofs.assembling.ListLaws.{contains_tail}
use Rattle.mof_metamodel.proofs.Facts.{contains_first}
use Rattle.xmi_profile.proofs.WritingForms.{class_typed}
use Rattle.xmi_profile.proofs.WritingModels.{property_of}
use Rattle.xmi_profile.proofs.written.Documents.{id_held}
use Rattle.xmi_profile.proofs.written.Items.{known_class}
use Rattle.xmi_profile.proofs.written.Known.{partner_live}
use Rattle.xmi_profile.proofs.written.Linking.{id_proper}
use Rattle.xmi_profile.proofs.written.Naming.{prop_read}
use Rattle.xmi_profile.proofs.written.Ordering.{object_props_once, once_behind, once_first}
use Rattle.xmi_profile.proofs.written.Values.{value_read}
use Rattle.model_files.specs.CanonJson.{value_data, partner_data, data_by, slot_data, with_slot, with_slots, slots_data}
use Rattle.model_files.specs.JsonContent.{items_list, in_list, slots_list, text_value, value_of, is_reference, may_stand, unless, wrong_in, wrong_at, wrong_slots}
use Rattle.model_assembly.specs.declared.fault.ModelFault.{ModelFault}
use Rattle.model_assembly.specs.declared.fault.ModelFault.TheVariants as faults
use Rattle.model_files.proofs.read_back.Members.{EachMember, put_each, AreInOrder, put_order, IsSpelled, AreSpelled, each_member, each_slot}

-- ---- lists

pub items_listed : (ds : List Data) → items_list (items_of ds) ≡ ds
items_listed [] = refl
items_listed (d ∷ ds) = ap (λ (xs : List Data). d ∷ xs) (items_listed ds)

pub each_mapped : {X Y : Type 0} (P : Y → Type 0) (f : X → Y) (xs : List X) → ((x : X) → Contains xs x → P (f x)) → AllByRecursion P (map f xs)
each_mapped P f [] h = tt
each_mapped P f (x ∷ xs) h = (h x (contains_first x xs), each_mapped P f xs (λ y c. h y (contains_tail x y xs c)))

-- ---- texts and values

pub text_back : (text : List ℕ) → IsHeldText text → chars (encode_utf8_all text) ≡ text
text_back text h = chars-encodes text h

integer_back : (i : ℤ) → FitsSigned w64 i → as_i64 (of_integer i) ≡ Some i
integer_back (pos n) f = let l : n < 2 ^ 63 = f.sfits in cond-true _ (Some (pos n)) None (lt-ltb n (2 ^ 63) l)
integer_back (negsuc n) f = refl

module _ (meta : MetaDesc) (well : WellMeta meta) (names : HasHeldNames meta) where
  -- what is written of a value is read as the value
  pub value_back : (type : Option PropType) (v : Value) → IsTrue (is_value_of meta type v) → IsHeld v → value_of meta type (value_data meta v) ≡ Some v
  value_back (Some types.Str) (values.Str text) h r = ap text_value (text_back text r) ∙ cond-true (is_storable_text text) (Some (values.Str text)) None h
  value_back (Some types.Int) (values.Int i) h r = ap (option_map (λ k. values.Int k)) (integer_back i r)
  value_back (Some types.Bool) (values.Bool b) h r = refl
  value_back (Some (types.Enum e)) (values.Lit f n) h r =
      ap (λ (text : List ℕ). option_map (λ k. values.Lit e k) (literal_number meta e.0 text)) (text_back (literal_at meta f.0 n) (names.literals f.0 n))
      ∙ value_read meta well (Some (types.Enum e)) (values.Lit f n) h r
  value_back None (values.Str text) h r = absurd cc
  value_back (Some types.Int) (values.Str text) h r = absurd cc
  value_back (Some types.Bool) (values.Str text) h r = absurd cc
  value_back (Some (types.Enum e)) (values.Str text) h r = absurd cc
  value_back (Some (types.Class c)) (values.Str text) h r = absurd cc
  value_back None (values.Int i) h r = absurd cc
  value_back (Some types.Str) (values.Int i) h r = absurd cc
  value_back (Some types.Bool) (values.Int i) h r = absurd cc
  value_back (Some (types.Enum e)) (values.Int i) h r = absurd cc
  value_back (Some (types.Class c)) (values.Int i) h r = absurd cc
  value_back None (values.Bool b) h r = absurd cc
  value_back (Some types.Str) (values.Bool b) h r = absurd cc
  value_back (Some types.Int) (values.Bool b) h r = absurd cc
  value_back (Some (types.Enum e)) (values.Bool b) h r = absurd cc
  value_back (Some (types.Class c)) (values.Bool b) h r = absurd cc
  value_back None (values.Lit f n) h r = absurd cc
  value_back (Some types.Str) (values.Lit f n) h r = absurd cc
  value_back (Some types.Int) (values.Lit f n) h r = absurd cc
  value_back (Some types.Bool) (values.Lit f n) h r = absurd cc
  value_back (Some (types.Class c)) (values.Lit f n) h r = absurd cc

-- ---- no fault in a slot

right_items : (meta : MetaDesc) (id name : List ℕ) (type : Option PropType) (ds : List Data) → AllByRecursion (λ d. may_stand meta type d ≡ true) ds → wrong_in meta id name type ds ≡ None
right_items meta id name type [] h = refl
right_items meta id name type (d ∷ ds) h =
    ap (λ (b : Bool). option_or (unless b (faults.WrongValue id (Some name))) (wrong_in meta id name type ds)) h.0 ∙ right_items meta id name type ds h.1

right_slots : (meta : MetaDesc) (id : List ℕ) (c : ℕ) (slots : List (List ℕ × List Data)) → AllByRecursion (λ slot. wrong_at meta id slot.0 (prop_number meta c slot.0) slot.1 ≡ None) slots
    → wrong_slots meta id c slots ≡ None
right_slots meta id c [] h = refl
right_slots meta id c (slot ∷ slots) h = ap (λ (f : Option ModelFault). option_or f (wrong_slots meta id c slots)) h.0 ∙ right_slots meta id c slots h.1

-- ---- the members are the slots of properties

-- the name of a property in UTF-8
abbrev pub key_of : ModelData → ℕ → List ℕ
key_of m p = encode_utf8_all (prop_name m.meta p)

pub record IsSlot (m : ModelData) (o : ℕ) (key : List ℕ) (d : Data) : Type 0 where
  pub property : ℕ
  pub has : Contains (object_props m o) property
  pub key_is : key ≡ key_of m property
  pub data_is : d ≡ array (items_of (slot_data m o property))

-- a list in a member, unless it is empty
abbrev pub filled : List Data → Option Data
filled [] = None
filled (d ∷ ds) = Some (array (items_of (d ∷ ds)))

module _ (m : ModelData) (v : Valid m) (shallow : (o d : ℕ) → IsLive m o → IsDepth m o d → d ≤ MAX_DEPTH) (held : IsHeldModel m) where
  slot_put : (o p : ℕ) → Contains (object_props m o) p → (ms : Members) (ds : List Data) → slot_data m o p ≡ ds → EachMember (IsSlot m o) ms → EachMember (IsSlot m o) (with_slot (prop_name m.meta p) ds ms)
  slot_put o p has ms [] e h = h
  slot_put o p has ms (d ∷ ds) e h =
      put_each (IsSlot m o) (key_of m p) (array (items_of (d ∷ ds))) ms (record { property = p; has = has; key_is = refl; data_is = ap (λ (xs : List Data). array (items_of xs)) (sym e) }) h

  slots_put : (o : ℕ) (ps : List ℕ) (ms : Members) → ((p : ℕ) → Contains ps p → Contains (object_props m o) p) → EachMember (IsSlot m o) ms → EachMember (IsSlot m o) (with_slots m o ps ms)
  slots_put o [] ms has h = h
  slots_put o (p ∷ ps) ms has h =
      slots_put o ps (with_slot (prop_name m.meta p) (slot_data m o p) ms) (λ q c. has q (contains_tail p q ps c)) (slot_put o p (has p (contains_first p ps)) ms (slot_data m o p) refl h)

  pub are_slots : (o : ℕ) → EachMember (IsSlot m o) (slots_data m o)
  are_slots o = slots_put o (object_props m o) no_members (λ p c. c) tt

  slot_order : (p : ℕ) (ds : List Data) (ms : Members) → AreInOrder ms → AreInOrder (with_slot (prop_name m.meta p) ds ms)
  slot_order p [] ms h = h
  slot_order p (d ∷ ds) ms h = put_order (key_of m p) (array (items_of (d ∷ ds))) ms h

  slots_order : (o : ℕ) (ps : List ℕ) (ms : Members) → AreInOrder ms → AreInOrder (with_slots m o ps ms)
  slots_order o [] ms h = h
  slots_order o (p ∷ ps) ms h = slots_order o ps (with_slot (prop_name m.meta p) (slot_data m o p) ms) (slot_order p (slot_data m o p) ms h)

  pub are_in_order : (o : ℕ) → AreInOrder (slots_data m o)
  are_in_order o = slots_order o (object_props m o) no_members tt

  pub name_back : (p : ℕ) → chars (key_of m p) ≡ prop_name m.meta p
  name_back p = text_back (prop_name m.meta p) (held.names.props p)

  pub are_spelled : (o : ℕ) → AreSpelled (slots_data m o)
  are_spelled o =
      each_member (IsSlot m o) (λ k d. IsSpelled k)
      (λ k d s. ap (λ (x : List ℕ). encode_utf8_all (chars x)) s.key_is ∙ ap encode_utf8_all (name_back s.property) ∙ sym s.key_is)
      (slots_data m o) (are_slots o)

  -- ---- names of properties

  pub prop_found : (o c p : ℕ) → class_at m o ≡ Some c → Contains (object_props m o) p → prop_number m.meta c (prop_name m.meta p) ≡ Some p
  prop_found o c p e has = prop_read m.meta v.kept.well c p (known_class m v.kept (λ x. x) o c e).0 (subst (λ (x : Option ℕ). Contains (props_or_none m.meta x) p) e has)

  pub key_found : (o c p : ℕ) → class_at m o ≡ Some c → Contains (object_props m o) p → prop_number m.meta c (chars (key_of m p)) ≡ Some p
  key_found o c p e has = ap (prop_number m.meta c) (name_back p) ∙ prop_found o c p e has

  pub same_key : (o p q : ℕ) → Contains (object_props m o) p → Contains (object_props m o) q → key_of m p ≡ key_of m q → p ≡ q
  same_key o p q cp cq e =
      let r : IsPropertyOf m o p = property_of m v.kept o p cp in
      ap (λ (x : Option ℕ). unwrap_or x p) (sym (key_found o r.class p r.class_is cp) ∙ ap (λ (k : List ℕ). prop_number m.meta r.class (chars k)) e ∙ key_found o r.class q r.class_is cq)

  -- ---- what stands at a property's name

  other_kept : (o p q : ℕ) (ds : List Data) (ms : Members) → (key_of m p ≡ key_of m q → ⊥) → get_member (key_of m p) (with_slot (prop_name m.meta q) ds ms) ≡ get_member (key_of m p) ms
  other_kept o p q [] ms apart = refl
  other_kept o p q (d ∷ ds) ms apart = get_member-put_other (key_of m p) (key_of m q) (array (items_of (d ∷ ds))) ms apart

  others_kept : (o p : ℕ) (qs : List ℕ) (ms : Members) → ((q : ℕ) → Contains qs q → key_of m p ≡ key_of m q → ⊥) → get_member (key_of m p) (with_slots m o qs ms) ≡ get_member (key_of m p) ms
  others_kept o p [] ms apart = refl
  others_kept o p (q ∷ qs) ms apart =
      others_kept o p qs (with_slot (prop_name m.meta q) (slot_data m o q) ms) (λ x c. apart x (contains_tail q x qs c))
      ∙ other_kept o p q (slot_data m o q) ms (apart q (contains_first q qs))

  own_filled : (p : ℕ) (ds : List Data) (ms : Members) → get_member (key_of m p) ms ≡ None → get_member (key_of m p) (with_slot (prop_name m.meta p) ds ms) ≡ filled ds
  own_filled p [] ms none = none
  own_filled p (d ∷ ds) ms none = get_member-put (key_of m p) (array (items_of (d ∷ ds))) ms

  found_in : (o p : ℕ) → Contains (object_props m o) p → (qs : List ℕ) (ms : Members) → ((q : ℕ) → Contains qs q → Contains (object_props m o) q) → IsOnce qs → Contains qs p
      → get_member (key_of m p) ms ≡ None → get_member (key_of m p) (with_slots m o qs ms) ≡ filled (slot_data m o p)
  found_in o p has [] ms within once (i, l, e) none = absurd (omega (arith, l))
  found_in o p has (q ∷ qs) ms within once (zero, l, e) none =
      others_kept o p qs (with_slot (prop_name m.meta q) (slot_data m o q) ms)
      (λ x c same. once_first q x qs once c (e ∙ same_key o p x has (within x (contains_tail q x qs c)) same))
      ∙ ap (λ (x : ℕ). get_member (key_of m p) (with_slot (prop_name m.meta x) (slot_data m o x) ms)) e ∙ own_filled p (slot_data m o p) ms none
  found_in o p has (q ∷ qs) ms within once (suc i, l, e) none =
      let there : Contains qs p = (i, omega (arith, l), e) in
      found_in o p has qs (with_slot (prop_name m.meta q) (slot_data m o q) ms) (λ x c. within x (contains_tail q x qs c)) (once_behind q qs once) there
      (other_kept o p q (slot_data m o q) ms (λ same. once_first q p qs once there (sym (same_key o p q has (within q (contains_first q qs)) same))) ∙ none)

  pub slot_found : (o p : ℕ) → Contains (object_props m o) p → get_member (key_of m p) (slots_data m o) ≡ filled (slot_data m o p)
  slot_found o p has = found_in o p has (object_props m o) no_members (λ q c. c) (object_props_once m v.kept o) has refl

  -- ---- no slot is wrong

  pub attribute_value : (o p : ℕ) → IsAttributeOf m o p → (w : Value) → Contains (values_at m o p) w → value_of m.meta (type_of m.meta p) (value_data m.meta w) ≡ Some w
  attribute_value o p a w c =
      value_back m.meta v.kept.well held.names (type_of m.meta p) w
      (All-contains (λ w. IsTrue (is_value_of m.meta (type_of m.meta p) w)) (values_at m o p) w (v.kept.attributes o p a).values.typed c)
      (held.values o p w c)

  pub id_back : (b : ℕ) → chars (encode_utf8_all (id_text m b)) ≡ id_text m b
  id_back b = text_back (id_text m b) (id_held m held b)

  pub is_named : (b : ℕ) → IsLive m b → is_reference (partner_data m b) ≡ true
  is_named b live = ap is_identifier_text (id_back b) ∙ id_proper m v shallow b live

  pub items_stand : (o p : ℕ) → Contains (object_props m o) p → (f : Form) → form_of m.meta p ≡ f → AllByRecursion (λ d. may_stand m.meta (type_of m.meta p) d ≡ true) (data_by m o p f)
  items_stand o p has f e = by f e
    where
      r : IsPropertyOf m o p
      r = property_of m v.kept o p has

      of_values : is_class_type (type_of m.meta p) ≡ false → AllByRecursion (λ d. may_stand m.meta (type_of m.meta p) d ≡ true) (map (value_data m.meta) (values_at m o p))
      of_values t =
          each_mapped (λ d. may_stand m.meta (type_of m.meta p) d ≡ true) (value_data m.meta) (values_at m o p) (λ w c.
          ap (λ (b : Bool). cond b (is_reference (value_data m.meta w)) (is_some (value_of m.meta (type_of m.meta p) (value_data m.meta w)))) t
          ∙ ap (λ (x : Option Value). is_some x) (attribute_value o p (record { class = r.class; class_is = r.class_is; has = r.has; attribute = t }) w c))

      of_partners : is_class_type (type_of m.meta p) ≡ true → AllByRecursion (λ d. may_stand m.meta (type_of m.meta p) d ≡ true) (map (partner_data m) (partners_at m o p))
      of_partners t =
          each_mapped (λ d. may_stand m.meta (type_of m.meta p) d ≡ true) (partner_data m) (partners_at m o p) (λ b c.
          ap (λ (x : Bool). cond x (is_reference (partner_data m b)) (is_some (value_of m.meta (type_of m.meta p) (partner_data m b)))) t
          ∙ is_named b (partner_live m v.kept o p b c))

      by : (f : Form) → form_of m.meta p ≡ f → AllByRecursion (λ d. may_stand m.meta (type_of m.meta p) d ≡ true) (data_by m o p f)
      by forms.Attribute e = of_values (class_typed m.meta p forms.Attribute e)
      by forms.Elements e = of_values (class_typed m.meta p forms.Elements e)
      by forms.Identifiers e = of_partners (class_typed m.meta p forms.Identifiers e)
      by forms.Parts e = of_partners (class_typed m.meta p forms.Parts e)
      by forms.Nesting e = tt

  slot_right : (id : List ℕ) (o c : ℕ) → class_at m o ≡ Some c → (key : List ℕ) (d : Data) → IsSlot m o key d → wrong_at m.meta id (chars key) (prop_number m.meta c (chars key)) (in_list d) ≡ None
  slot_right id o c e key d s =
      let p : ℕ = s.property in
      let number : prop_number m.meta c (chars key) ≡ Some p = ap (λ (k : List ℕ). prop_number m.meta c (chars k)) s.key_is ∙ key_found o c p e s.has in
      let items : in_list d ≡ slot_data m o p = ap in_list s.data_is ∙ items_listed (slot_data m o p) in
      ap₂ (λ (x : Option ℕ) (ds : List Data). wrong_at m.meta id (chars key) x ds) number items
      ∙ right_items m.meta id (chars key) (type_of m.meta p) (slot_data m o p) (items_stand o p s.has (form_of m.meta p) refl)

  pub slots_right : (id : List ℕ) (o c : ℕ) → class_at m o ≡ Some c → wrong_slots m.meta id c (slots_list (slots_data m o)) ≡ None
  slots_right id o c e =
      right_slots m.meta id c (slots_list (slots_data m o))
      (each_slot (IsSlot m o) (λ slot. wrong_at m.meta id slot.0 (prop_number m.meta c slot.0) slot.1 ≡ None) (slot_right id o c e) (slots_data m o) (are_slots o))
