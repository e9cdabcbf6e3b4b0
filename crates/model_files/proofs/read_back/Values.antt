-- What the slots of a written object say at a property: the values of an attribute, or the partners of a reference.
use Rattle.std.proofs.Common.{◌≡◌, ◌≢◌, ℕ, zero, suc, ◌+◌, ◌<◌, ◌≤◌, ◌==◌, ◌&&◌, Bool, true, false, cond, List, [], ◌∷◌, ◌++◌, map, chars, nat_cmp, Ordering, Less, Equal, Greater, option_map, refl, sym, ap, ap₂, ◌∙◌, subst, arith, append-nil, Option, None, Some}
use Rattle.std.specs.Prelude.{Contains, filter_map, slice_get}
use Rattle.std.specs.Cmp.Lexicographic.{slice_cmp}
use Rattle.std.specs.List.{AllByRecursion, cons_option}
use Rattle.std.specs.Option.{unwrap_or}
use Rattle.std.specs.Ordering.{match_ordering}
use Rattle.std.proofs.lemmas.Bool.{eqb-true, eq-eqb, true≢false}
use Rattle.std.proofs.lemmas.Cmp.{nat_list_cmp_total, tied_itself}
use Rattle.serde_json.specs.Data.{Data, Members, no_members, member}
use Rattle.serde_json.specs.Find.{get_member}
use Rattle.mof_metamodel.specs.declared.desc.MetaDesc.{MetaDesc}
use Rattle.mof_metamodel.specs.declared.desc.PropType.{PropType}
use Rattle.object_tables.specs.declared.limit.TheConstants.{MAX_DEPTH}
use Rattle.mof_metamodel.specs.Metamodels.{prop_number, type_of}
use Rattle.object_tables.specs.declared.value.Value.{Value}
use Rattle.object_tables.specs.Containment.{IsDepth}
use Rattle.object_tables.specs.Models.{ModelData, class_at, values_at, is_class_type, IsLive, IsAttributeOf}
use Rattle.object_tables.specs.Validity.{Valid}
use Rattle.model_assembly.specs.declared.form.Form.{Form}
use Rattle.model_assembly.specs.declared.form.Form.TheVariants as forms
use Rattle.model_assembly.specs.Forms.{form_of}
use Rattle.model_assembly.specs.Held.{IsHeldModel}
use Rattle.model_assembly.specs.Profile.{object_props}
use Rattle.model_assembly.specs.Source.{is_at}
use Rattle.model_assembly.proofs.assembling.ListLaws.{contains_tail}
use Rattle.mof_metamodel.proofs.Facts.{contains_first}
use Rattle.xmi_profile.proofs.WritingForms.{class_typed}
use Rattle.model_files.specs.CanonJson.{value_data, data_by, slot_data, slots_data}
use Rattle.model_files.specs.JsonContent.{Written, class_in, in_list, slots_list, type_in, value_of}
use Rattle.model_files.specs.JsonFiled.{AreApart}
use Rattle.model_files.proofs.JsonFiledReferences.{not_same, nothing_if, and_false, both_names, slot_of}
use Rattle.model_files.proofs.JsonFiledValues.{values_if, slots_values, objects_values}
use Rattle.model_files.proofs.JsonTree.{prop_in, IsKnownSlot, IsKnownObject, type_known}
use Rattle.model_files.proofs.read_back.Members.{EachMember, tied}
use Rattle.model_files.proofs.read_back.Slots.{items_listed, key_of, IsSlot, are_slots, key_found, same_key, filled, slot_found, attribute_value}

-- ---- the first slot of a property

abbrev pub found_at : MetaDesc → ℕ → ℕ → List (List ℕ × List Data) → Option (List Data)
found_at meta c p [] = None
found_at meta c p (slot ∷ slots) = cond (prop_in meta c slot.0 == p) (Some slot.1) (found_at meta c p slots)

-- is the one that a reference is read from
pub slot_is_found : (meta : MetaDesc) (c p : ℕ) (slots : List (List ℕ × List Data)) → AllByRecursion (IsKnownSlot meta c) slots → is_class_type (type_of meta p) ≡ true
    → slot_of meta c p slots ≡ found_at meta c p slots
slot_is_found meta c p [] known t = refl
slot_is_found meta c p (slot ∷ slots) known t = by (is_class_type (type_in meta c slot.0)) (prop_in meta c slot.0 == p) refl refl (slot_is_found meta c p slots known.1 t)
  where
    by : (a b : Bool) → is_class_type (type_in meta c slot.0) ≡ a → (prop_in meta c slot.0 == p) ≡ b → slot_of meta c p slots ≡ found_at meta c p slots
        → cond (a && b) (Some slot.1) (slot_of meta c p slots) ≡ cond b (Some slot.1) (found_at meta c p slots)
    by true true e f rest = refl
    by true false e f rest = rest
    by false false e f rest = rest
    by false true e f rest =
        absurd (true≢false (sym t ∙ ap (λ (q : ℕ). is_class_type (type_of meta q)) (sym (eqb-true (prop_in meta c slot.0) p f)) ∙ ap is_class_type (sym (type_known meta c slot known.0)) ∙ e))

-- ---- values of the slots of an object: at most one is of the property

abbrev pub valued : MetaDesc → ℕ → Option (List Data) → List Value
valued meta p None = []
valued meta p (Some ds) = filter_map (value_of meta (type_of meta p)) ds

no_more : (meta : MetaDesc) (o p c : ℕ) (slot : List ℕ × List Data) (slots : List (List ℕ × List Data)) → IsKnownSlot meta c slot → prop_in meta c slot.0 ≡ p
    → AllByRecursion (IsKnownSlot meta c) slots → AllByRecursion (λ other. other.0 ≢ slot.0) slots → slots_values meta o p o c slots ≡ []
no_more meta o p c slot [] known e others apart = refl
no_more meta o p c slot (other ∷ slots) known e others apart =
    let differ : (prop_in meta c other.0 == p) ≡ false = not_same (prop_in meta c other.0) p (λ f. apart.0 (both_names meta c p slot other known others.0 e f)) in
    ap₂ (λ (xs ys : List Value). xs ++ ys)
    (ap (λ (b : Bool). cond (is_class_type (type_in meta c other.0)) [] (cond ((o == o) && b) (filter_map (value_of meta (type_in meta c other.0)) other.1) [])) differ
    ∙ ap (λ (b : Bool). cond (is_class_type (type_in meta c other.0)) [] (cond b (filter_map (value_of meta (type_in meta c other.0)) other.1) [])) (and_false (o == o)) ∙ nothing_if (is_class_type (type_in meta c other.0)))
    (no_more meta o p c slot slots known e others.1 apart.1)

pub own_valued : (meta : MetaDesc) (o p c : ℕ) (slots : List (List ℕ × List Data)) → AllByRecursion (IsKnownSlot meta c) slots → AreApart slots → is_class_type (type_of meta p) ≡ false
    → slots_values meta o p o c slots ≡ valued meta p (found_at meta c p slots)
own_valued meta o p c [] known apart f = refl
own_valued meta o p c (slot ∷ slots) known apart f =
    ap (λ (b : Bool). cond (is_class_type (type_in meta c slot.0)) [] (cond (b && (prop_in meta c slot.0 == p)) (filter_map (value_of meta (type_in meta c slot.0)) slot.1) []) ++ slots_values meta o p o c slots) (eq-eqb o o refl)
    ∙ by (prop_in meta c slot.0 == p) refl (own_valued meta o p c slots known.1 apart.1 f)
  where
    type : type_in meta c slot.0 ≡ type_of meta (prop_in meta c slot.0)
    type = type_known meta c slot known.0

    by : (b : Bool) → (prop_in meta c slot.0 == p) ≡ b → slots_values meta o p o c slots ≡ valued meta p (found_at meta c p slots)
        → cond (is_class_type (type_in meta c slot.0)) [] (cond (true && b) (filter_map (value_of meta (type_in meta c slot.0)) slot.1) []) ++ slots_values meta o p o c slots
        ≡ valued meta p (cond b (Some slot.1) (found_at meta c p slots))
    by true e rest =
        let same : prop_in meta c slot.0 ≡ p = eqb-true (prop_in meta c slot.0) p e in
        let typed : type_in meta c slot.0 ≡ type_of meta p = type ∙ ap (type_of meta) same in
        ap₂ (λ (xs ys : List Value). xs ++ ys)
        (ap (λ (t : Option PropType). cond (is_class_type t) [] (filter_map (value_of meta t) slot.1)) typed
        ∙ ap (λ (b : Bool). cond b [] (filter_map (value_of meta (type_of meta p)) slot.1)) f)
        (no_more meta o p c slot slots known.0 same known.1 apart.0)
        ∙ append-nil (filter_map (value_of meta (type_of meta p)) slot.1)
    by false e rest = ap (λ (xs : List Value). xs ++ slots_values meta o p o c slots) (nothing_if (is_class_type (type_in meta c slot.0))) ∙ rest

-- ---- values of the object of a number

other_valued : (meta : MetaDesc) (o p object c : ℕ) (slots : List (List ℕ × List Data)) → (object == o) ≡ false → slots_values meta o p object c slots ≡ []
other_valued meta o p object c [] e = refl
other_valued meta o p object c (slot ∷ slots) e =
    ap₂ (λ (xs ys : List Value). xs ++ ys)
    (ap (λ (b : Bool). cond (is_class_type (type_in meta c slot.0)) [] (cond (b && (prop_in meta c slot.0 == p)) (filter_map (value_of meta (type_in meta c slot.0)) slot.1) [])) e
    ∙ nothing_if (is_class_type (type_in meta c slot.0)))
    (other_valued meta o p object c slots e)

later_valued : (meta : MetaDesc) (o p object : ℕ) (objects : List Written) → o < object → objects_values meta o p object objects ≡ []
later_valued meta o p object [] l = refl
later_valued meta o p object (written ∷ rest) l =
    ap₂ (λ (xs ys : List Value). xs ++ ys) (other_valued meta o p object (class_in meta written) written.slots (not_same object o (λ e. omega (arith, l, e))))
    (later_valued meta o p (suc object) rest (omega (arith, l)))

abbrev object_valued_by : MetaDesc → ℕ → ℕ → Option Written → List Value
object_valued_by meta o p None = []
object_valued_by meta o p (Some written) = slots_values meta o p o (class_in meta written) written.slots

object_valued : (meta : MetaDesc) (p : ℕ) (objects : List Written) (object i o : ℕ) → o ≡ object + i → objects_values meta o p object objects ≡ object_valued_by meta o p (slice_get objects i)
object_valued meta p [] object i o e = refl
object_valued meta p (written ∷ rest) object zero o e =
    let same : object ≡ o = omega (arith, e) in
    let l : o < suc object = omega (arith, e) in
    ap₂ (λ (xs ys : List Value). xs ++ ys)
    (ap (λ (n : ℕ). slots_values meta o p n (class_in meta written) written.slots) same) (later_valued meta o p (suc object) rest l)
    ∙ append-nil (slots_values meta o p o (class_in meta written) written.slots)
object_valued meta p (written ∷ rest) object (suc i) o e =
    ap₂ (λ (xs ys : List Value). xs ++ ys)
    (other_valued meta o p object (class_in meta written) written.slots (not_same object o (λ f. omega (arith, e, f))))
    (object_valued meta p rest (suc object) i o (omega (arith, e)))

-- the values of an object are those of its slot of the property
pub values_found : (meta : MetaDesc) (o p : ℕ) (objects : List Written) (written : Written) → slice_get objects o ≡ Some written → IsKnownObject meta written → AreApart written.slots
    → is_class_type (type_of meta p) ≡ false → objects_values meta o p 0 objects ≡ valued meta p (found_at meta (class_in meta written) p written.slots)
values_found meta o p objects written at known apart f =
    let number : o ≡ 0 + o = omega arith in
    object_valued meta p objects 0 o o number ∙ ap (object_valued_by meta o p) at ∙ own_valued meta o p (class_in meta written) written.slots known.slots apart f

-- ---- what is written is found

less_equal : Less ≡ Equal → ⊥
less_equal e = cc

greater_equal : Greater ≡ Equal → ⊥
greater_equal e = cc

-- a list, unless it is empty
abbrev pub present : List Data → Option (List Data)
present [] = None
present (d ∷ ds) = Some (d ∷ ds)

module _ (m : ModelData) (v : Valid m) (shallow : (o d : ℕ) → IsLive m o → IsDepth m o d → d ≤ MAX_DEPTH) (held : IsHeldModel m) where
  member_found : (o c p : ℕ) → class_at m o ≡ Some c → Contains (object_props m o) p → (ms : Members) → EachMember (IsSlot m o) ms
      → found_at m.meta c p (slots_list ms) ≡ option_map in_list (get_member (key_of m p) ms)
  member_found o c p e has no_members h = refl
  member_found o c p e has (member k d ms) h = by (slice_cmp nat_cmp (key_of m p) k) refl (member_found o c p e has ms h.1)
    where
      q : ℕ
      q = h.0.property

      is : prop_in m.meta c (chars k) ≡ q
      is = ap (λ (x : Option ℕ). unwrap_or x 0) (ap (λ (y : List ℕ). prop_number m.meta c (chars y)) h.0.key_is ∙ key_found m v shallow held o c q e h.0.has)

      other : (slice_cmp nat_cmp (key_of m p) k ≡ Equal → ⊥) → (prop_in m.meta c (chars k) == p) ≡ false
      other apart =
          not_same (prop_in m.meta c (chars k)) p
          (λ same. (
          let key : key_of m p ≡ k = ap (λ (x : ℕ). key_of m x) (sym same ∙ is) ∙ sym h.0.key_is in
          apart (ap (slice_cmp nat_cmp (key_of m p)) (sym key) ∙ tied_itself nat_list_cmp_total (key_of m p))
          ))

      by : (r : Ordering) → slice_cmp nat_cmp (key_of m p) k ≡ r
          → found_at m.meta c p (slots_list ms) ≡ option_map in_list (get_member (key_of m p) ms)
          → cond (prop_in m.meta c (chars k) == p) (Some (in_list d)) (found_at m.meta c p (slots_list ms))
          ≡ option_map in_list (match_ordering r (get_member (key_of m p) ms) (Some d) (get_member (key_of m p) ms))
      by Less f rest = ap (λ (b : Bool). cond b (Some (in_list d)) (found_at m.meta c p (slots_list ms))) (other (λ g. less_equal (sym f ∙ g))) ∙ rest
      by Greater f rest = ap (λ (b : Bool). cond b (Some (in_list d)) (found_at m.meta c p (slots_list ms))) (other (λ g. greater_equal (sym f ∙ g))) ∙ rest
      by Equal f rest =
          let same : p ≡ q = same_key m v shallow held o p q has h.0.has (tied (key_of m p) k f ∙ h.0.key_is) in
          ap (λ (b : Bool). cond b (Some (in_list d)) (found_at m.meta c p (slots_list ms))) (eq-eqb (prop_in m.meta c (chars k)) p (is ∙ sym same))

  filled_present : (ds : List Data) → option_map in_list (filled ds) ≡ present ds
  filled_present [] = refl
  filled_present (d ∷ ds) = ap (λ (xs : List Data). Some xs) (items_listed (d ∷ ds))

  pub slot_present : (o c p : ℕ) → class_at m o ≡ Some c → Contains (object_props m o) p → found_at m.meta c p (slots_list (slots_data m o)) ≡ present (slot_data m o p)
  slot_present o c p e has =
      member_found o c p e has (slots_data m o) (are_slots m v shallow held o) ∙ ap (option_map in_list) (slot_found m v shallow held o p has) ∙ filled_present (slot_data m o p)

  -- no slot is of another property
  pub slot_absent : (o c q : ℕ) → class_at m o ≡ Some c → (Contains (object_props m o) q → ⊥) → (ms : Members) → EachMember (IsSlot m o) ms → slot_of m.meta c q (slots_list ms) ≡ None
  slot_absent o c q e none no_members h = refl
  slot_absent o c q e none (member k d ms) h =
      let is : prop_in m.meta c (chars k) ≡ h.0.property = ap (λ (x : Option ℕ). unwrap_or x 0) (ap (λ (y : List ℕ). prop_number m.meta c (chars y)) h.0.key_is ∙ key_found m v shallow held o c h.0.property e h.0.has) in
      let differ : (prop_in m.meta c (chars k) == q) ≡ false = not_same (prop_in m.meta c (chars k)) q (λ same. none (subst (Contains (object_props m o)) (sym is ∙ same) h.0.has)) in
      ap (λ (b : Bool). cond b (Some (in_list d)) (slot_of m.meta c q (slots_list ms))) (ap (λ (b : Bool). is_class_type (type_in m.meta c (chars k)) && b) differ ∙ and_false (is_class_type (type_in m.meta c (chars k))))
      ∙ slot_absent o c q e none ms h.1

  -- ---- the values of an attribute

  read_values : (read : Data → Option Value) (ws : List Value) → ((w : Value) → Contains ws w → read (value_data m.meta w) ≡ Some w) → filter_map read (map (value_data m.meta) ws) ≡ ws
  read_values read [] h = refl
  read_values read (w ∷ ws) h =
      ap₂ (λ (x : Option Value) (ys : List Value). cons_option x ys) (h w (contains_first w ws)) (read_values read ws (λ x c. h x (contains_tail w x ws c)))

  valued_present : (p : ℕ) (ds : List Data) → valued m.meta p (present ds) ≡ filter_map (value_of m.meta (type_of m.meta p)) ds
  valued_present p [] = refl
  valued_present p (d ∷ ds) = refl

  pub values_back : (o p : ℕ) → IsAttributeOf m o p → valued m.meta p (present (slot_data m o p)) ≡ values_at m o p
  values_back o p a = valued_present p (slot_data m o p) ∙ by (form_of m.meta p) refl
    where
      read : filter_map (value_of m.meta (type_of m.meta p)) (map (value_data m.meta) (values_at m o p)) ≡ values_at m o p
      read = read_values (value_of m.meta (type_of m.meta p)) (values_at m o p) (attribute_value m v shallow held o p a)

      no : (f : Form) → form_of m.meta p ≡ f → true ≡ is_class_type (type_of m.meta p) → ⊥
      no f e t = true≢false (t ∙ a.attribute)

      by : (f : Form) → form_of m.meta p ≡ f → filter_map (value_of m.meta (type_of m.meta p)) (data_by m o p f) ≡ values_at m o p
      by forms.Attribute e = read
      by forms.Elements e = read
      by forms.Identifiers e = absurd (no forms.Identifiers e (sym (class_typed m.meta p forms.Identifiers e)))
      by forms.Parts e = absurd (no forms.Parts e (sym (class_typed m.meta p forms.Parts e)))
      by forms.Nesting e = absurd (no forms.Nesting e (sym (class_typed m.meta p forms.Nesting e)))
