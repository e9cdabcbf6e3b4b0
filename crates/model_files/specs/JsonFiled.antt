-- What a model as JSON writes, collected object by object, slot by slot and item by item: values of attributes, objects that are named
-- at references, and references with nothing there.
use Rattle.std.specs.Prelude.{◌≡◌, ◌≢◌, ℕ, suc, true, false, is_some, List, [], ◌∷◌, ◌++◌, position, chars, Option, None, Some, if◌then◌else◌}
use Rattle.std.specs.List.{list_any, AllByRecursion}
use Rattle.std.specs.Option.{option_map, option_and_then}
use Rattle.serde_json.specs.Data.{Data, string}
use Rattle.serde_json.specs.Find.{as_number, as_i64, as_bool}
use Rattle.mof_metamodel.specs.declared.desc.MetaDesc.{MetaDesc}
use Rattle.mof_metamodel.specs.declared.desc.EnumId.{EnumId}
use Rattle.mof_metamodel.specs.declared.desc.PropType.{PropType}
use Rattle.mof_metamodel.specs.Characters.{same_name}
use Rattle.mof_metamodel.specs.Metamodels.{prop_number, type_of, literal_number}
use Rattle.object_tables.specs.declared.value.Value.{Value}
use Rattle.object_tables.specs.declared.value.Value.TheVariants as values
use Rattle.object_tables.specs.Models.{is_class_type}
use Rattle.model_assembly.specs.declared.filed.Filed.{Filed}
use Rattle.model_assembly.specs.declared.filed.WrittenValue.{WrittenValue}
use Rattle.model_assembly.specs.declared.filed.WrittenReference.{WrittenReference}
use Rattle.model_assembly.specs.Elements.{concrete_class}
use Rattle.model_files.specs.declared.json_filed.Slot.{Slot}
use Rattle.model_files.specs.JsonContent.{Written, text_value, value_of, item_text}

-- the value of an attribute of each type that an item is
abbrev pub text_in : Data → Option Value
text_in (string s) = text_value (chars s)
text_in d = None

abbrev pub integer_in : Data → Option Value
integer_in d = option_map (λ i. values.Int i) (option_and_then as_i64 (as_number d))

abbrev pub boolean_in : Data → Option Value
boolean_in d = option_map (λ b. values.Bool b) (as_bool d)

abbrev pub literal_in : MetaDesc → EnumId → Data → Option Value
literal_in meta e (string s) = option_map (λ n. values.Lit e n) (literal_number meta e.0 (chars s))
literal_in meta e d = None

-- the values of an attribute behind others
abbrev pub with_value : Slot → Option Value → List WrittenValue → List WrittenValue
with_value slot None vs = vs
with_value slot (Some v) vs = vs ++ record { object = slot.object; property = slot.property; value = v } ∷ []

abbrev pub with_values : MetaDesc → Slot → Option PropType → List Data → List WrittenValue → List WrittenValue
with_values meta slot type [] vs = vs
with_values meta slot type (d ∷ ds) vs = with_values meta slot type ds (with_value slot (value_of meta type d) vs)

-- the number of the object with an identifier, where these are the identifiers of all objects
abbrev pub number_in : List (List ℕ) → List ℕ → Option ℕ
number_in ids id = position (same_name id) ids

-- what stands at a reference, where these are the identifiers of all objects
abbrev pub reference_to : List (List ℕ) → Slot → List ℕ → WrittenReference
reference_to ids slot text = record { object = slot.object; property = slot.property; target = number_in ids text; text = text }

abbrev pub with_references : List (List ℕ) → Slot → List Data → List WrittenReference → List WrittenReference
with_references ids slot [] rs = rs
with_references ids slot (d ∷ ds) rs = with_references ids slot ds (rs ++ reference_to ids slot (item_text d) ∷ [])

-- a slot of a reference: what it names, or that it is written and names nothing
abbrev pub with_named : List (List ℕ) → Slot → List Data → Filed → Filed
with_named ids slot [] filed = record filed { mentions = filed.mentions ++ record { object = slot.object; property = slot.property } ∷ [] }
with_named ids slot (d ∷ ds) filed = record filed { references = with_references ids slot (d ∷ ds) filed.references }

-- a slot of a property of this type
abbrev pub with_items : MetaDesc → List (List ℕ) → Slot → Option PropType → List Data → Filed → Filed
with_items meta ids slot type ds filed =
    if is_class_type type then with_named ids slot ds filed else record filed { values = with_values meta slot type ds filed.values }

-- a slot by its property, if it is one
abbrev pub with_found : MetaDesc → List (List ℕ) → ℕ → Option ℕ → List Data → Filed → Filed
with_found meta ids o None ds filed = filed
with_found meta ids o (Some p) ds filed = with_items meta ids (record { object = o; property = record { 0 = p } }) (type_of meta p) ds filed

abbrev pub with_slots : MetaDesc → List (List ℕ) → ℕ → ℕ → List (List ℕ × List Data) → Filed → Filed
with_slots meta ids o c [] filed = filed
with_slots meta ids o c (slot ∷ slots) filed = with_slots meta ids o c slots (with_found meta ids o (prop_number meta c slot.0) slot.1 filed)

-- the slots of an object of this class, if there is one
abbrev pub with_object : MetaDesc → List (List ℕ) → ℕ → List (List ℕ × List Data) → Option ℕ → Filed → Filed
with_object meta ids o slots None filed = filed
with_object meta ids o slots (Some c) filed = with_slots meta ids o c slots filed

-- the objects from this number on
abbrev pub with_objects : MetaDesc → List (List ℕ) → ℕ → List Written → Filed → Filed
with_objects meta ids o [] filed = filed
with_objects meta ids o (written ∷ rest) filed =
    with_objects meta ids (suc o) rest (with_object meta ids o written.slots (concrete_class meta written.class) filed)

-- no two slots have one name
abbrev pub AreApart : List (List ℕ × List Data) → Type 0
AreApart [] = Unit {0}
AreApart (slot ∷ slots) = AllByRecursion (λ other. other.0 ≢ slot.0) slots × AreApart slots

-- so it is in each object
abbrev pub HasApart : List Written → Type 0
HasApart objects = AllByRecursion (λ w. AreApart w.slots) objects

-- each object is of a concrete class
abbrev pub AreClassed : MetaDesc → List Written → Type 0
AreClassed meta objects = AllByRecursion (λ w. is_some (concrete_class meta w.class) ≡ true) objects

-- each identifier is new behind those that were met and those before it
abbrev pub AreNew : List (List ℕ) → List (List ℕ) → Type 0
AreNew met [] = Unit {0}
AreNew met (id ∷ ids) = (list_any (same_name id) met ≡ false) × AreNew (met ++ id ∷ []) ids
