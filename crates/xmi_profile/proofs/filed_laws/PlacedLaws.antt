-- What is filed stands at properties of the objects' classes.
use Rattle.std.proofs.Common.{◌≡◌, ℕ, suc, ◌+◌, ◌<◌, Bool, true, false, List, [], ◌∷◌, length, refl, sym, arith, subst, None, Some}
use Rattle.std.specs.Prelude.{All, Contains, IfSome, Option, slice_get, if◌then◌else◌}
use Rattle.std.proofs.lemmas.List.Elements.{All-nil, All-push, All-cons, All-head, All-tail, All-append}
use Rattle.mof_metamodel.specs.declared.desc.MetaDesc.{MetaDesc}
use Rattle.mof_metamodel.specs.declared.desc.PropId.{PropId}
use Rattle.mof_metamodel.specs.Metamodels.{prop_number, props_of, type_of}
use Rattle.mof_metamodel.proofs.MetaLaws.{prop_named}
use Rattle.object_tables.specs.Models.{is_class_type}
use Rattle.object_tables.specs.declared.value.Value.{Value}
use Rattle.xmi_profile.specs.declared.element.Element.{Element}
use Rattle.model_assembly.specs.declared.filed.Mention.{Mention}
use Rattle.model_assembly.specs.declared.filed.WrittenReference.{WrittenReference}
use Rattle.model_assembly.specs.declared.filed.WrittenValue.{WrittenValue}
use Rattle.model_assembly.specs.Attributes.{Attrs, is_nil}
use Rattle.model_assembly.specs.declared.role.Role.{Role}
use Rattle.model_assembly.specs.declared.role.Role.TheVariants.{Document, Skipped, AnObject, AValue, AReference, Neither, Alien, Stranger, Misplaced}
use Rattle.model_assembly.specs.Elements.{Item}
use Rattle.xmi_profile.specs.Filing.{Writings, no_writings, number_by, text_by, written_reference, with_target, with_words, mention_of, with_mention, written_value, with_value_if, with_value, is_met, met_with, is_name_prop}
use Rattle.xmi_profile.specs.Numbering.{Numbers}
use Rattle.model_assembly.specs.declared.target.Target.{Target}
use Rattle.model_assembly.specs.declared.target.Target.TheVariants.{Named, Contained}
use Rattle.model_assembly.specs.References.{words}
use Rattle.model_assembly.specs.Values.{value_of}
use Rattle.xmi_profile.proofs.filed_laws.EntryLaws.{Said, OfAttr, OfInner, OfTarget, Entry, entry, with_said, with_entries, attr_entries_if, attr_entry, attr_entries, own_entries_by, own_entries, all_attr_entries, inner_entries, part_entries, role_entries, element_entries, name_entries_if, name_entries, added_entries}
use Rattle.xmi_profile.proofs.filed_laws.NamedLaws.{name_is_attribute}
use Rattle.model_assembly.proofs.PlaceLaws.{IsOwned, IsPlaced, IsParent}
use Rattle.xmi_profile.proofs.SeenLaws.{kept}
use Rattle.model_assembly.proofs.assembling.ListLaws.{in_tail}
use Rattle.mof_metamodel.proofs.Facts.{contains_first}

-- ---- what entries may be, given which objects have which properties

abbrev pub Slots : Type 1
Slots = ℕ → ℕ → Type 0

abbrev pub IsSaidOf : MetaDesc → ℕ → Said → Type 0
IsSaidOf meta p (OfAttr text) = Unit {0}
IsSaidOf meta p (OfInner text) = is_class_type (type_of meta p) ≡ false
IsSaidOf meta p (OfTarget target) = is_class_type (type_of meta p) ≡ true

module _ (meta : MetaDesc) (P : Slots) where
  abbrev pub IsEntry : Entry → Type 0
  IsEntry e = P e.object e.property × IsSaidOf meta e.property e.said

  -- a slot of attributes, or of references
  abbrev pub OfAttribute : Slots
  OfAttribute o p = P o p × (is_class_type (type_of meta p) ≡ false)

  abbrev pub OfReference : Slots
  OfReference o p = P o p × (is_class_type (type_of meta p) ≡ true)

  abbrev pub ValueAt : WrittenValue → Type 0
  ValueAt v = OfAttribute v.object v.property.0

  abbrev pub ReferenceAt : WrittenReference → Type 0
  ReferenceAt r = OfReference r.object r.property.0

  abbrev pub MentionAt : Mention → Type 0
  MentionAt m = OfReference m.object m.property.0

  pub record AreAt (w : Writings) : Type 0 where
    pub values : All ValueAt w.values
    pub references : All ReferenceAt w.references
    pub mentions : All MentionAt w.mentions

  pub nothing_at : AreAt no_writings
  nothing_at = record { values = All-nil ValueAt; references = All-nil ReferenceAt; mentions = All-nil MentionAt }

  value_at : (w : Writings) (o p : ℕ) (v : Option Value) → AreAt w → OfAttribute o p → AreAt (with_value_if w o p v)
  value_at w o p None a h = a
  value_at w o p (Some v) a h = record { values = All-push ValueAt w.values (written_value o p v) a.values h; references = a.references; mentions = a.mentions }

  mention_at : (w : Writings) (o p : ℕ) → AreAt w → OfReference o p → AreAt (with_mention w o p)
  mention_at w o p a h = record { values = a.values; references = a.references; mentions = All-push MentionAt w.mentions (mention_of o p) a.mentions h }

  module _ (n : Numbers) where
    target_at : (w : Writings) (o p : ℕ) (t : Target) → AreAt w → OfReference o p → AreAt (with_target n w o p t)
    target_at w o p t a h = record {
      values = a.values;
      references = All-push ReferenceAt w.references (written_reference o p (number_by n.names t) (text_by n.ids t)) a.references h;
      mentions = a.mentions;
    }

    words_at : (w : Writings) (o p : ℕ) (ws : List (List ℕ)) → AreAt w → OfReference o p → AreAt (with_words n w o p ws)
    words_at w o p [] a h = a
    words_at w o p (word ∷ ws) a h = words_at (with_target n w o p (Named word)) o p ws (target_at w o p (Named word) a h) h

    said_is_at : (w : Writings) (o p : ℕ) (said : Said) → AreAt w → P o p → IsSaidOf meta p said → AreAt (with_said meta n w o p said)
    said_is_at w o p (OfAttr text) a h k = by (is_class_type (type_of meta p)) refl
      where
        by : (b : Bool) → is_class_type (type_of meta p) ≡ b → AreAt (if b then with_words n (with_mention w o p) o p (words text) else with_value meta w o p text)
        by true t = words_at (with_mention w o p) o p (words text) (mention_at w o p a (h, t)) (h, t)
        by false t = value_at w o p (value_of meta (type_of meta p) text) a (h, t)
    said_is_at w o p (OfInner text) a h k = value_at w o p (value_of meta (type_of meta p) text) a (h, k)
    said_is_at w o p (OfTarget target) a h k = target_at w o p target a (h, k)

    pub entries_at : (w : Writings) (es : List Entry) → AreAt w → All IsEntry es → AreAt (with_entries meta n w es)
    entries_at w [] a h = a
    entries_at w (e ∷ es) a h =
        let here = All-head IsEntry e es h in
        entries_at (with_said meta n w e.object e.property e.said) es (said_is_at w e.object e.property e.said a here.0 here.1) (All-tail IsEntry e es h)

  -- ---- the entries of elements

  one_entry : (e : Entry) → IsEntry e → All IsEntry (e ∷ [])
  one_entry e h = All-cons IsEntry e [] h (All-nil IsEntry)

  module _ (classes : List (Option ℕ)) (owned : (o p : ℕ) → IsOwned meta classes o p → P o p) where
    abbrev property_at : ℕ → PropId
    property_at p = record { 0 = p }

    attr_is : (o c : ℕ) (met name text : List ℕ) (q : Option ℕ) → slice_get classes o ≡ Some (Some c) → prop_number meta c name ≡ q → All IsEntry (attr_entry o met text q)
    attr_is o c met name text None e h = All-nil IsEntry
    attr_is o c met name text (Some q) e h = by (is_met met q)
      where
        by : (b : Bool) → All IsEntry (attr_entries_if b o q text)
        by true = All-nil IsEntry
        by false = one_entry (entry o q (OfAttr text)) (owned o q (record { class = c; class_is = e; has = (prop_named meta c name (Some (property_at q)) (sym h)).has }), tt)

    attrs_are : (o c : ℕ) (met : List ℕ) (attrs : Attrs) → slice_get classes o ≡ Some (Some c) → All IsEntry (attr_entries meta o c met attrs)
    attrs_are o c met [] e = All-nil IsEntry
    attrs_are o c met (a ∷ attrs) e =
        let q : Option ℕ = prop_number meta c a.0 in
        All-append IsEntry (attr_entry o met a.1 q) (attr_entries meta o c (met_with met q) attrs) (attr_is o c met a.0 a.1 q e refl) (attrs_are o c (met_with met q) attrs e)

    own_by : (o : ℕ) (attrs : Attrs) (class : Option ℕ) → slice_get classes o ≡ Some class → All IsEntry (own_entries_by meta o attrs class)
    own_by o attrs None e = All-nil IsEntry
    own_by o attrs (Some c) e = attrs_are o c [] attrs e

    own_are : (attrs : Attrs) (role : Role) → IsParent classes role → All IsEntry (own_entries meta attrs role)
    own_are attrs Document i = All-nil IsEntry
    own_are attrs Skipped i = All-nil IsEntry
    own_are attrs (AnObject object) i = own_by object.number attrs object.class i
    own_are attrs (AValue o p) i = All-nil IsEntry
    own_are attrs (AReference o p target) i = All-nil IsEntry
    own_are attrs (Neither o p) i = All-nil IsEntry
    own_are attrs Alien i = All-nil IsEntry
    own_are attrs (Stranger o) i = All-nil IsEntry
    own_are attrs (Misplaced o p) i = All-nil IsEntry

    inner_are : (o p : ℕ) (e : Element) → IsOwned meta classes o p → is_class_type (type_of meta p) ≡ false → All IsEntry (inner_entries o p e)
    inner_are o p e h t = by (is_nil e.attrs)
      where
        by : (b : Bool) → All IsEntry (if b then [] else entry o p (OfInner e.text) ∷ [])
        by true = All-nil IsEntry
        by false = one_entry (entry o p (OfInner e.text)) (owned o p h, t)

    part_are : (number : ℕ) (within : Option (ℕ × ℕ)) → IfSome within (λ container. IsOwned meta classes container.0 container.1 × (is_class_type (type_of meta container.1) ≡ true)) → All IsEntry (part_entries number within)
    part_are number None h = All-nil IsEntry
    part_are number (Some within) h = one_entry (entry within.0 within.1 (OfTarget (Contained number))) (owned within.0 within.1 h.0, h.1)

    role_are : (e : Element) (role : Role) → IsPlaced meta classes role → All IsEntry (role_entries e role)
    role_are e Document h = All-nil IsEntry
    role_are e Skipped h = All-nil IsEntry
    role_are e (AnObject object) h = part_are object.number object.within h.0
    role_are e (AValue o p) h = inner_are o p e h.0 h.1
    role_are e (AReference o p target) h = one_entry (entry o p (OfTarget target)) (owned o p h.0, h.1)
    role_are e (Neither o p) h = All-nil IsEntry
    role_are e Alien h = All-nil IsEntry
    role_are e (Stranger o) h = All-nil IsEntry
    role_are e (Misplaced o p) h = All-nil IsEntry

    abbrev Placed : Item → Type 0
    Placed item = IsPlaced meta classes item.role × IsParent classes item.role

    pub all_attrs_are : (items : List Item) → All Placed items → All IsEntry (all_attr_entries meta items)
    all_attrs_are [] a = All-nil IsEntry
    all_attrs_are (item ∷ items) a =
        All-append IsEntry (own_entries meta item.attrs item.role) (all_attr_entries meta items)
        (own_are item.attrs item.role (All-head Placed item items a).1) (all_attrs_are items (All-tail Placed item items a))

    pub elements_are : (items : List Item) → All Placed items → All IsEntry (element_entries items)
    elements_are [] a = All-nil IsEntry
    elements_are (item ∷ items) a =
        All-append IsEntry (role_entries (kept item) item.role) (element_entries items)
        (role_are (kept item) item.role (All-head Placed item items a).0) (elements_are items (All-tail Placed item items a))

  -- ---- the entries of primitive types that are added

  name_is : (o : ℕ) (id : List ℕ) (p : ℕ) → P o p → All IsEntry (name_entries_if (is_name_prop meta p) o id p)
  name_is o id p h = by (is_name_prop meta p) refl
    where
      by : (b : Bool) → is_name_prop meta p ≡ b → All IsEntry (name_entries_if b o id p)
      by true e = one_entry (entry o p (OfInner id)) (h, name_is_attribute meta p e)
      by false e = All-nil IsEntry

  names_are : (o : ℕ) (id ps : List ℕ) → ((p : ℕ) → Contains ps p → P o p) → All IsEntry (name_entries meta o id ps)
  names_are o id [] h = All-nil IsEntry
  names_are o id (p ∷ ps) h =
      All-append IsEntry (name_entries_if (is_name_prop meta p) o id p) (name_entries meta o id ps)
      (name_is o id p (h p (contains_first p ps))) (names_are o id ps (λ q c. h q (in_tail p ps q c)))

  pub added_are : (c o : ℕ) (ids : List (List ℕ)) → ((j p : ℕ) → j < length ids → Contains (props_of meta c) p → P (o + j) p) → All IsEntry (added_entries meta c o ids)
  added_are c o [] h = All-nil IsEntry
  added_are c o (id ∷ ids) h =
      All-append IsEntry (name_entries meta o id (props_of meta c)) (added_entries meta c (suc o) ids)
      (names_are o id (props_of meta c) (λ p k. let z : o + 0 ≡ o = omega arith in subst (λ (m : ℕ). P m p) z (h 0 p (omega arith) k)))
      (added_are c (suc o) ids (λ j p l k. let z : o + suc j ≡ suc o + j = omega arith in subst (λ (m : ℕ). P m p) z (h (suc j) p (omega (arith, l)) k)))
