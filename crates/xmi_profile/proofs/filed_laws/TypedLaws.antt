-- Values of a document's elements are values of their properties' types.
use Rattle.std.proofs.Common.{◌≡◌, ℕ, suc, Bool, true, false, List, [], ◌∷◌, ◌++◌, length, refl, sym, ◌∙◌, ap, subst, None, Some}
use Rattle.std.specs.Prelude.{◌&&◌, nat_lt, ℤ, All, codes, Option, filter, if◌then◌else◌}
use Rattle.std.specs.Option.{option_map, unwrap_or}
use Rattle.std.proofs.lemmas.Bool.{eq-eqb, lt-ltb}
use Rattle.std.proofs.lemmas.List.Elements.{All-nil, All-push, All-cons, All-head, All-tail, All-append}
use Rattle.mof_metamodel.specs.declared.desc.MetaDesc.{MetaDesc}
use Rattle.mof_metamodel.specs.declared.desc.EnumId.{EnumId}
use Rattle.mof_metamodel.specs.declared.desc.PropType.{PropType}
use Rattle.mof_metamodel.specs.declared.desc.PropType.TheVariants as types
use Rattle.mof_metamodel.specs.Metamodels.{prop_number, props_of, type_of, enum_at, literal_number}
use Rattle.mof_metamodel.proofs.MetaLaws.{literal_within}
use Rattle.object_tables.specs.declared.value.Value.{Value}
use Rattle.object_tables.specs.declared.value.Value.TheVariants as values
use Rattle.object_tables.specs.Models.{is_class_type, is_value_of}
use Rattle.xmi_profile.specs.declared.element.Element.{Element}
use Rattle.model_assembly.specs.declared.filed.WrittenValue.{WrittenValue}
use Rattle.model_assembly.specs.Attributes.{Attrs, is_nil}
use Rattle.model_assembly.specs.declared.role.Role.{Role}
use Rattle.model_assembly.specs.declared.role.ObjectRole.{ObjectRole}
use Rattle.model_assembly.specs.declared.role.Role.TheVariants.{Document, Skipped, AnObject, AValue, AReference, Neither, Alien, Stranger, Misplaced}
use Rattle.model_assembly.specs.Elements.{Item, object_of}
use Rattle.model_assembly.specs.SoundFiled.{IsTyped}
use Rattle.xmi_profile.specs.Filing.{Writings, with_mention, written_value, with_value_if, with_value, with_words, is_met, met_with, is_name_prop}
use Rattle.xmi_profile.specs.Numbering.{Numbers}
use Rattle.model_assembly.specs.References.{words}
use Rattle.model_assembly.specs.Source.{Source, is_added, added_names, primitive_class}
use Rattle.model_assembly.specs.Values.{value_of, integer_of, boolean_of, trimmed}
use Rattle.xmi_profile.proofs.filed_laws.EntryLaws.{Said, OfAttr, OfInner, OfTarget, Entry, entry, with_said, with_entries, words_values, attr_entries_if, attr_entry, attr_entries, own_entries_by, own_entries_of, own_entries, all_attr_entries, inner_entries, part_entries, role_entries, element_entries, name_entries_if, name_entries, added_entries}
use Rattle.xmi_profile.proofs.filed_laws.FiledLaws.{added_by, all_entries}
use Rattle.xmi_profile.proofs.SeenLaws.{kept}
use Rattle.xmi_profile.proofs.filed_laws.StorableLaws.{Stored, StoredAttrs, StoredItem}
use Rattle.std.proofs.lemmas.Option.{none-some}

-- ---- one value

module _ (meta : MetaDesc) where
  some_value : (t : Option PropType) (u v : Value) → Some u ≡ Some v → is_value_of meta t u ≡ true → is_value_of meta t v ≡ true
  some_value t u v e h = ap (λ (x : Option Value). is_value_of meta t (unwrap_or x u)) (sym e) ∙ h

  integer_typed : (i : Option ℤ) (v : Value) → option_map (λ j. values.Int j) i ≡ Some v → is_value_of meta (Some types.Int) v ≡ true
  integer_typed None v e = absurd (none-some v e)
  integer_typed (Some i) v e = some_value (Some types.Int) (values.Int i) v e refl

  boolean_typed : (b : Option Bool) (v : Value) → option_map (λ c. values.Bool c) b ≡ Some v → is_value_of meta (Some types.Bool) v ≡ true
  boolean_typed None v e = absurd (none-some v e)
  boolean_typed (Some b) v e = some_value (Some types.Bool) (values.Bool b) v e refl

  literal_typed : (enum : EnumId) (text : List ℕ) (n : Option ℕ) (v : Value) → n ≡ literal_number meta enum.0 text → option_map (λ k. values.Lit enum k) n ≡ Some v
      → is_value_of meta (Some (types.Enum enum)) v ≡ true
  literal_typed enum text None v h e = absurd (none-some v e)
  literal_typed enum text (Some n) v h e =
      some_value (Some (types.Enum enum)) (values.Lit enum n) v e
      (ap (λ (b : Bool). b && nat_lt n (length (enum_at meta enum.0).literals)) (eq-eqb enum.0 enum.0 refl)
      ∙ lt-ltb n (length (enum_at meta enum.0).literals) (literal_within meta enum.0 text (Some n) h))

  value_typed : (t : Option PropType) (text : List ℕ) (v : Value) → Stored text → value_of meta t text ≡ Some v → is_value_of meta t v ≡ true
  value_typed (Some types.Str) text v h e = some_value (Some types.Str) (values.Str text) v e h
  value_typed (Some types.Int) text v h e = integer_typed (integer_of (trimmed text)) v e
  value_typed (Some types.Bool) text v h e = boolean_typed (boolean_of (trimmed text)) v e
  value_typed (Some (types.Enum enum)) text v h e = literal_typed enum text (literal_number meta enum.0 text) v refl e
  value_typed (Some (types.Class c)) text v h e = absurd (none-some v e)
  value_typed None text v h e = absurd (none-some v e)

  -- ---- all values of entries

  abbrev AllTyped : Writings → Type 0
  AllTyped w = All (IsTyped meta) w.values

  abbrev IsStored : Said → Type 0
  IsStored (OfAttr text) = Stored text
  IsStored (OfInner text) = Stored text
  IsStored (OfTarget target) = Unit {0}

  abbrev StoredEntry : Entry → Type 0
  StoredEntry e = IsStored e.said

  value_added : (w : Writings) (o p : ℕ) (text : List ℕ) → AllTyped w → Stored text → AllTyped (with_value meta w o p text)
  value_added w o p text a h = by (value_of meta (type_of meta p) text) refl
    where
      by : (v : Option Value) → value_of meta (type_of meta p) text ≡ v → AllTyped (with_value_if w o p v)
      by None e = a
      by (Some v) e = All-push (IsTyped meta) w.values (written_value o p v) a (value_typed (type_of meta p) text v h e)

  said_typed : (n : Numbers) (w : Writings) (o p : ℕ) (said : Said) → AllTyped w → IsStored said → AllTyped (with_said meta n w o p said)
  said_typed n w o p (OfAttr text) a h = by (is_class_type (type_of meta p))
    where
      by : (b : Bool) → AllTyped (if b then with_words n (with_mention w o p) o p (words text) else with_value meta w o p text)
      by true = subst (λ (vs : List WrittenValue). All (IsTyped meta) vs) (sym (words_values n (with_mention w o p) o p (words text))) a
      by false = value_added w o p text a h
  said_typed n w o p (OfInner text) a h = value_added w o p text a h
  said_typed n w o p (OfTarget target) a h = a

  pub entries_typed : (n : Numbers) (w : Writings) (es : List Entry) → AllTyped w → All StoredEntry es → AllTyped (with_entries meta n w es)
  entries_typed n w [] a h = a
  entries_typed n w (e ∷ es) a h =
      entries_typed n (with_said meta n w e.object e.property e.said) es (said_typed n w e.object e.property e.said a (All-head StoredEntry e es h)) (All-tail StoredEntry e es h)

  -- ---- the texts of entries

  one_entry : (e : Entry) → StoredEntry e → All StoredEntry (e ∷ [])
  one_entry e h = All-cons StoredEntry e [] h (All-nil StoredEntry)

  attr_stored : (o : ℕ) (met text : List ℕ) (q : Option ℕ) → Stored text → All StoredEntry (attr_entry o met text q)
  attr_stored o met text None h = All-nil StoredEntry
  attr_stored o met text (Some q) h = by (is_met met q)
    where
      by : (b : Bool) → All StoredEntry (attr_entries_if b o q text)
      by true = All-nil StoredEntry
      by false = one_entry (entry o q (OfAttr text)) h

  attrs_stored : (o c : ℕ) (met : List ℕ) (attrs : Attrs) → StoredAttrs attrs → All StoredEntry (attr_entries meta o c met attrs)
  attrs_stored o c met [] h = All-nil StoredEntry
  attrs_stored o c met (a ∷ attrs) h =
      let q : Option ℕ = prop_number meta c a.0 in
      All-append StoredEntry (attr_entry o met a.1 q) (attr_entries meta o c (met_with met q) attrs) (attr_stored o met a.1 q h.0) (attrs_stored o c (met_with met q) attrs h.1)

  own_by_stored : (o : ℕ) (attrs : Attrs) (class : Option ℕ) → StoredAttrs attrs → All StoredEntry (own_entries_by meta o attrs class)
  own_by_stored o attrs None h = All-nil StoredEntry
  own_by_stored o attrs (Some c) h = attrs_stored o c [] attrs h

  own_stored : (attrs : Attrs) (role : Option ObjectRole) → StoredAttrs attrs → All StoredEntry (own_entries_of meta attrs role)
  own_stored attrs None h = All-nil StoredEntry
  own_stored attrs (Some object) h = own_by_stored object.number attrs object.class h

  all_attrs_stored : (items : List Item) → All StoredItem items → All StoredEntry (all_attr_entries meta items)
  all_attrs_stored [] a = All-nil StoredEntry
  all_attrs_stored (item ∷ items) a =
      All-append StoredEntry (own_entries meta item.attrs item.role) (all_attr_entries meta items)
      (own_stored item.attrs (object_of item.role) (All-head StoredItem item items a).0) (all_attrs_stored items (All-tail StoredItem item items a))

  inner_stored : (o p : ℕ) (e : Element) → Stored e.text → All StoredEntry (inner_entries o p e)
  inner_stored o p e h = by (is_nil e.attrs)
    where
      by : (b : Bool) → All StoredEntry (if b then [] else entry o p (OfInner e.text) ∷ [])
      by true = All-nil StoredEntry
      by false = one_entry (entry o p (OfInner e.text)) h

  part_stored : (number : ℕ) (within : Option (ℕ × ℕ)) → All StoredEntry (part_entries number within)
  part_stored number None = All-nil StoredEntry
  part_stored number (Some within) = All-cons StoredEntry _ [] tt (All-nil StoredEntry)

  role_stored : (e : Element) (role : Role) → Stored e.text → All StoredEntry (role_entries e role)
  role_stored e Document h = All-nil StoredEntry
  role_stored e Skipped h = All-nil StoredEntry
  role_stored e (AnObject object) h = part_stored object.number object.within
  role_stored e (AValue o p) h = inner_stored o p e h
  role_stored e (AReference o p target) h = one_entry (entry o p (OfTarget target)) tt
  role_stored e (Neither o p) h = All-nil StoredEntry
  role_stored e Alien h = All-nil StoredEntry
  role_stored e (Stranger o) h = All-nil StoredEntry
  role_stored e (Misplaced o p) h = All-nil StoredEntry

  elements_stored : (items : List Item) → All StoredItem items → All StoredEntry (element_entries items)
  elements_stored [] a = All-nil StoredEntry
  elements_stored (item ∷ items) a =
      All-append StoredEntry (role_entries (kept item) item.role) (element_entries items)
      (role_stored (kept item) item.role (All-head StoredItem item items a).1) (elements_stored items (All-tail StoredItem item items a))

  names_stored : (o : ℕ) (id ps : List ℕ) → Stored id → All StoredEntry (name_entries meta o id ps)
  names_stored o id [] h = All-nil StoredEntry
  names_stored o id (p ∷ ps) h = All-append StoredEntry (name_entries_if (is_name_prop meta p) o id p) (name_entries meta o id ps) (by (is_name_prop meta p)) (names_stored o id ps h)
    where
      by : (b : Bool) → All StoredEntry (name_entries_if b o id p)
      by true = one_entry (entry o p (OfInner id)) h
      by false = All-nil StoredEntry

  added_stored : (c o : ℕ) (ids : List (List ℕ)) → All Stored ids → All StoredEntry (added_entries meta c o ids)
  added_stored c o [] a = All-nil StoredEntry
  added_stored c o (id ∷ ids) a =
      All-append StoredEntry (name_entries meta o id (props_of meta c)) (added_entries meta c (suc o) ids)
      (names_stored o id (props_of meta c) (All-head Stored id ids a)) (added_stored c (suc o) ids (All-tail Stored id ids a))

  added_by_stored : (class : Option ℕ) (o : ℕ) (ids : List (List ℕ)) → All Stored ids → All StoredEntry (added_by meta class o ids)
  added_by_stored None o ids a = All-nil StoredEntry
  added_by_stored (Some c) o ids a = added_stored c o ids a

  pub all_stored : (items : List Item) (o : ℕ) (ids : List (List ℕ)) → All StoredItem items → All Stored ids → All StoredEntry (all_entries meta items o ids)
  all_stored items o ids a b =
      All-append StoredEntry (all_attr_entries meta items ++ element_entries items) (added_by meta (primitive_class meta) o ids)
      (All-append StoredEntry (all_attr_entries meta items) (element_entries items) (all_attrs_stored items a) (elements_stored items a))
      (added_by_stored (primitive_class meta) o ids b)

-- the names of what is added
filter_stored : (f : List ℕ → Bool) (names : List (List ℕ)) → All Stored names → All Stored (filter f names)
filter_stored f [] a = a
filter_stored f (name ∷ names) a = by (f name) (filter_stored f names (All-tail Stored name names a))
  where
    by : (b : Bool) → All Stored (filter f names) → All Stored (if b then name ∷ filter f names else filter f names)
    by true h = All-cons Stored name (filter f names) (All-head Stored name names a) h
    by false h = h

pub added_names_stored : (s : Source) → All Stored (added_names s)
added_names_stored s =
    filter_stored (is_added s) (codes "String" ∷ codes "Integer" ∷ codes "Boolean" ∷ [])
    (All-cons Stored (codes "String") (codes "Integer" ∷ codes "Boolean" ∷ []) refl
    (All-cons Stored (codes "Integer") (codes "Boolean" ∷ []) refl (All-cons Stored (codes "Boolean") [] refl (All-nil Stored))))
