-- The objects that are written of a model: no fault stands among them, and the file is their value.
use Rattle.std.proofs.Common.{◌≡◌, ℕ, zero, suc, ◌^◌, ◌<◌, ◌≤◌, pos, negsuc, Bool, true, false, cond, List, [], ◌∷◌, ◌++◌, length, get_or, map, chars, encode_utf8_all, codes, IsUtf8, refl, sym, ap, ap₂, ◌∙◌, subst, arith, append_assoc, Option, None, Some}
use Rattle.std.specs.Prelude.{◌||◌, Contains, is_some, not, ℤ, FitsSigned}
use Rattle.std.specs.Int.{w64}
use Rattle.std.specs.List.{list_any, range_with_len}
use Rattle.std.specs.Option.{option_or}
use Rattle.std.proofs.lemmas.List.{length-map, map-append}
use Rattle.std.proofs.lemmas.List.Elements.{Contains-get_or}
use Rattle.json.proofs.Printed.Utf8.{IsUtf8-are_ascii}
use Rattle.serde_json.specs.Data.{Data, array, object, string, number, unsigned, Items, Members, no_members, member}
use Rattle.serde_json.specs.Find.{of_integer}
use Rattle.serde_json.specs.View.{items_of}
use Rattle.object_tables.specs.declared.limit.TheConstants.{MAX_DEPTH, MAX_OBJECTS}
use Rattle.mof_metamodel.specs.Characters.{same_name, is_identifier_text}
use Rattle.mof_metamodel.specs.Metamodels.{literal_at}
use Rattle.mof_metamodel.proofs.DistinctLemmas.{IsOnce}
use Rattle.mof_metamodel.proofs.SearchLemmas.{same_true}
use Rattle.object_tables.specs.declared.value.Value.{Value}
use Rattle.object_tables.specs.declared.value.Value.TheVariants as values
use Rattle.object_tables.specs.Containment.{IsDepth}
use Rattle.object_tables.specs.Models.{ModelData, object_at, class_at, values_at, partners_at, live_count, IsLive}
use Rattle.object_tables.specs.Validity.{Valid}
use Rattle.object_tables.proofs.ModelLemmas.{live_class}
use Rattle.model_assembly.specs.declared.fault.ModelFault.{ModelFault}
use Rattle.model_assembly.specs.declared.fault.ModelFault.TheVariants as faults
use Rattle.model_assembly.specs.declared.form.Form.{Form}
use Rattle.model_assembly.specs.declared.form.Form.TheVariants as forms
use Rattle.model_assembly.specs.Elements.{concrete_class}
use Rattle.model_assembly.specs.Forms.{form_of}
use Rattle.model_assembly.specs.Held.{IsHeldText, IsHeld, IsHeldModel}
use Rattle.model_assembly.specs.Profile.{prop_name, id_text, class_text, object_props, live_numbers}
use Rattle.model_assembly.specs.Source.{proper}
use Rattle.model_assembly.proofs.assembling.ListLaws.{contains_tail}
use Rattle.mof_metamodel.proofs.Facts.{contains_first}
use Rattle.xmi_profile.proofs.WritingModels.{filtered}
use Rattle.xmi_profile.proofs.written.Documents.{id_held, class_held}
use Rattle.xmi_profile.proofs.written.Items.{class_is}
use Rattle.xmi_profile.proofs.written.Linking.{apart_from, id_proper, same_id}
use Rattle.xmi_profile.proofs.written.Reading.{live_count_is}
use Rattle.xmi_profile.proofs.written.Reordered.{Rising, rising_filter, range_rises}
use Rattle.xmi_profile.proofs.written.Sources.{none_any}
use Rattle.model_files.specs.CanonJson.{value_data, partner_data, data_by, slot_data, slots_data, object_data, objects_data, model_data, canon_json}
use Rattle.model_files.specs.JsonContent.{Written, written_of, objects_of, unless, wrong_id, wrong_slots, wrong_object, wrong_from, first_wrong, slots_list}
use Rattle.model_files.specs.JsonFaults.{HasObjects}
use Rattle.model_files.specs.JsonText.{value_in}
use Rattle.model_files.proofs.DepthLaws.{model_below}
use Rattle.model_files.proofs.JsonFormLaws.{written_right}
use Rattle.model_files.proofs.read_back.Members.{EachMember}
use Rattle.model_files.proofs.read_back.Slots.{items_listed, text_back, IsSlot, are_slots, are_in_order, name_back, id_back, slots_right}
use Rattle.model_files.proofs.read_back.Texts.{IsWell, IsWellNumber, AreWellItems, AreWellMembers, object_read}

-- ---- numbers that rise are distinct

pub rising_once : (xs : List ℕ) → Rising xs → IsOnce xs
rising_once [] r i j d l lj = λ e. omega (arith, lj)
rising_once (x ∷ xs) r zero zero d l lj = λ e. omega (arith, l)
rising_once (x ∷ xs) r zero (suc j) d l lj = λ e. (
    let y : ℕ = get_or xs j d in
    let less : x < y = r.0 y (Contains-get_or xs j d (omega (arith, lj))) in
    let same : x ≡ y = e in
    omega (arith, less, same))
rising_once (x ∷ xs) r (suc i) zero d l lj = λ e. omega (arith, l)
rising_once (x ∷ xs) r (suc i) (suc j) d l lj = rising_once xs r.1 i j d (omega (arith, l)) (omega (arith, lj))

pub live_rise : (m : ModelData) → Rising (live_numbers m)
live_rise m = rising_filter (λ o. is_some (object_at m o)) (range_with_len 0 (length m.objects)) (range_rises (length m.objects))

pub listed_live : (m : ModelData) (o : ℕ) → Contains (live_numbers m) o → IsLive m o
listed_live m o c = (filtered (λ o. is_some (object_at m o)) (range_with_len 0 (length m.objects)) o c).1

-- ---- what is written can be read back

number_well : (i : ℤ) → FitsSigned w64 i → IsWellNumber (of_integer i)
number_well (pos n) f = f.sfits
number_well (negsuc n) f = f.sfits

text_well : (text : List ℕ) → IsHeldText text → IsUtf8 (encode_utf8_all text)
text_well text h = (text, (h, refl))

items_well : {X : Type 0} (f : X → Data) (xs : List X) → ((x : X) → Contains xs x → IsWell (f x)) → AreWellItems (items_of (map f xs))
items_well f [] h = tt
items_well f (x ∷ xs) h = (h x (contains_first x xs), items_well f xs (λ y c. h y (contains_tail x y xs c)))

module _ (m : ModelData) (v : Valid m) (shallow : (o d : ℕ) → IsLive m o → IsDepth m o d → d ≤ MAX_DEPTH) (held : IsHeldModel m) where
  value_well : (w : Value) → IsHeld w → IsWell (value_data m.meta w)
  value_well (values.Str text) h = text_well text h
  value_well (values.Int i) h = number_well i h
  value_well (values.Bool b) h = tt
  value_well (values.Lit e n) h = text_well (literal_at m.meta e.0 n) (held.names.literals e.0 n)

  slot_well : (o p : ℕ) → AreWellItems (items_of (slot_data m o p))
  slot_well o p = by (form_of m.meta p)
    where
      of_values : AreWellItems (items_of (map (value_data m.meta) (values_at m o p)))
      of_values = items_well (value_data m.meta) (values_at m o p) (λ w c. value_well w (held.values o p w c))

      of_partners : AreWellItems (items_of (map (partner_data m) (partners_at m o p)))
      of_partners = items_well (partner_data m) (partners_at m o p) (λ b c. text_well (id_text m b) (id_held m held b))

      by : (f : Form) → AreWellItems (items_of (data_by m o p f))
      by forms.Attribute = of_values
      by forms.Elements = of_values
      by forms.Identifiers = of_partners
      by forms.Parts = of_partners
      by forms.Nesting = tt

  members_well : (o : ℕ) (ms : Members) → EachMember (IsSlot m o) ms → AreWellMembers ms
  members_well o no_members h = tt
  members_well o (member k d ms) h = (
    (
      subst IsUtf8 (sym h.0.key_is) (text_well (prop_name m.meta h.0.property) (held.names.props h.0.property)),
      subst IsWell (sym h.0.data_is) (slot_well o h.0.property),
    ),
    members_well o ms h.1,
  )

  name_well : (text : List ℕ) → IsHeldText text → IsWell (string (encode_utf8_all text))
  name_well text h = text_well text h

  object_well : (o : ℕ) → IsWell (object_data m o)
  object_well o = (
    (
      (IsUtf8-are_ascii (codes "class") refl, name_well _ (class_held m held o)),
      (
        (IsUtf8-are_ascii (codes "id") refl, name_well (id_text m o) (id_held m held o)),
        ((IsUtf8-are_ascii (codes "slots") refl, (members_well o (slots_data m o) (are_slots m v shallow held o), are_in_order m v shallow held o)), tt),
      ),
    ),
    ((refl, (refl, tt)), ((refl, tt), (tt, tt))),
  )

  model_well : IsWell (model_data m)
  model_well = (
    (
      (IsUtf8-are_ascii (codes "metamodel") refl, name_well m.meta.name held.names.metamodel),
      (
        (IsUtf8-are_ascii (codes "objects") refl, items_well (object_data m) (live_numbers m) (λ o c. object_well o)),
        ((IsUtf8-are_ascii (codes "version") refl, omega arith), tt),
      ),
    ),
    ((refl, (refl, tt)), ((refl, tt), (tt, tt))),
  )

  -- the text is the value
  pub text_read : value_in (canon_json m) ≡ Some (model_data m)
  text_read =
      object_read
      (member (codes "metamodel") (string (encode_utf8_all m.meta.name)) (member (codes "objects") (array (items_of (objects_data m))) (member (codes "version") (number (unsigned 1)) no_members)))
      model_well (model_below m)

  -- ---- the objects of the value

  abbrev pub written : ℕ → Written
  written o = record { class = class_text m o; id = id_text m o; slots = slots_list (slots_data m o) }

  object_written : (o : ℕ) → written_of (object_data m o) ≡ written o
  object_written o =
      ap₂ (λ (class id : List ℕ). record { class = class; id = id; slots = slots_list (slots_data m o) }) (text_back (class_text m o) (class_held m held o)) (id_back m v shallow held o)

  all_written : (os : List ℕ) → map written_of (map (object_data m) os) ≡ map written os
  all_written [] = refl
  all_written (o ∷ os) = ap₂ (λ (w : Written) (ws : List Written). w ∷ ws) (object_written o) (all_written os)

  pub objects_are : objects_of (model_data m) ≡ map written (live_numbers m)
  objects_are = ap (map written_of) (items_listed (objects_data m)) ∙ all_written (live_numbers m)

  -- ---- no fault

  new_id : (o : ℕ) (before : List ℕ) → IsLive m o → ((x : ℕ) → Contains before x → IsLive m x) → (Contains before o → ⊥) → list_any (same_name (id_text m o)) (map (id_text m) before) ≡ false
  new_id o [] live lives apart = refl
  new_id o (x ∷ before) live lives apart =
      by (same_name (id_text m o) (id_text m x)) refl (new_id o before live (λ y c. lives y (contains_tail x y before c)) (λ c. apart (contains_tail x o before c)))
    where
      by : (b : Bool) → same_name (id_text m o) (id_text m x) ≡ b → list_any (same_name (id_text m o)) (map (id_text m) before) ≡ false
          → (b || list_any (same_name (id_text m o)) (map (id_text m) before)) ≡ false
      by false e rest = rest
      by true e rest =
          let same : o ≡ x = same_id m v shallow o x live (lives x (contains_first x before)) (same_true (id_text m o) (id_text m x) e) in
          absurd (apart (subst (Contains (x ∷ before)) (sym same) (contains_first x before)))

  right_object : (before : List ℕ) (place o : ℕ) → IsLive m o → ((x : ℕ) → Contains before x → IsLive m x) → (Contains before o → ⊥)
      → wrong_object m.meta (map (id_text m) before) place (written o) (concrete_class m.meta (class_text m o)) ≡ None
  right_object before place o live lives apart =
      let (c, e) = live_class m o live in
      let proper_id = id_proper m v shallow o live in
      let new = new_id o before live lives apart in
      ap (wrong_object m.meta (map (id_text m) before) place (written o)) (class_is m v.kept (λ x. x) o live ∙ e)
      ∙ ap₂ (λ (b d : Bool). option_or (option_or (unless b (faults.WrongValue (proper (id_text m o) place) None)) (unless (not d) (faults.DuplicateId (id_text m o)))) (wrong_slots m.meta (proper (id_text m o) place) c (slots_list (slots_data m o)))) proper_id new
      ∙ slots_right m v shallow held (proper (id_text m o) place) o c e

  right_objects : (before os : List ℕ) (place : ℕ) → ((x : ℕ) → Contains (before ++ os) x → IsLive m x) → IsOnce (before ++ os) → wrong_from m.meta (map (id_text m) before) place (map written os) ≡ None
  right_objects before [] place lives once = refl
  right_objects before (o ∷ os) place lives once =
      let seam : (before ++ o ∷ []) ++ os ≡ before ++ o ∷ os = append_assoc before (o ∷ []) os in
      let live : IsLive m o = lives o (middle before o os) in
      ap (λ (f : Option ModelFault). option_or f (wrong_from m.meta (map (id_text m) before ++ id_text m o ∷ []) (suc place) (map written os)))
      (right_object before place o live (λ x c. lives x (first before (o ∷ os) x c)) (apart_from before o os once))
      ∙ ap (λ (ids : List (List ℕ)). wrong_from m.meta ids (suc place) (map written os)) (sym (map-append (id_text m) before (o ∷ [])))
      ∙ right_objects (before ++ o ∷ []) os (suc place) (λ x c. lives x (subst (λ (xs : List ℕ). Contains xs x) seam c)) (subst IsOnce (sym seam) once)
    where
      first : (xs ys : List ℕ) (x : ℕ) → Contains xs x → Contains (xs ++ ys) x
      first [] ys x (i, l, e) = absurd (omega (arith, l))
      first (y ∷ xs) ys x (zero, l, e) = subst (Contains (y ∷ (xs ++ ys))) e (contains_first y (xs ++ ys))
      first (y ∷ xs) ys x (suc i, l, e) = contains_tail y x (xs ++ ys) (first xs ys x (i, omega (arith, l), e))

      middle : (xs : List ℕ) (y : ℕ) (ys : List ℕ) → Contains (xs ++ y ∷ ys) y
      middle [] y ys = contains_first y ys
      middle (x ∷ xs) y ys = contains_tail x y (xs ++ y ∷ ys) (middle xs y ys)

  nothing_wrong : first_wrong m.meta (objects_of (model_data m)) ≡ None
  nothing_wrong = ap (first_wrong m.meta) objects_are ∙ right_objects [] (live_numbers m) 0 (listed_live m) (rising_once (live_numbers m) (live_rise m))

  pub objects_counted : length (objects_of (model_data m)) ≡ live_count m
  objects_counted = ap length objects_are ∙ length-map (live_numbers m) written ∙ live_count_is m held v shallow

  -- the file is a value in which nothing is wrong
  pub has_objects : live_count m ≤ MAX_OBJECTS → HasObjects m.meta (canon_json m) (model_data m)
  has_objects few = record { value = text_read; shape = written_right m; fewer = (let same = objects_counted in omega (arith, few, same)); right = nothing_wrong }
