-- The bindings of AttrToColumn and PrimToColumn that calls have with a class, its table and the empty prefix: one for the class, and one for each of its attributes; and that
-- NestedToColumn and SuperToColumn have none.
use Rattle.std.proofs.Common.{◌≡◌, ◌<◌, ◌+◌, ℕ, zero, suc, true, List, [], ◌∷◌, map, length, None, Some, refl, sym, ap, ◌∙◌, subst, arith}
use Rattle.std.specs.Prelude.{codes, All}
use Rattle.std.specs.List.{list_all, range_with_len}
use Rattle.std.proofs.lemmas.List.{ext_get_or}
use Rattle.std.proofs.lemmas.List.Elements.{All-nil, All-cons, All-weaker}
use Rattle.object_tables.specs.declared.value.Value.TheVariants as values
use Rattle.object_tables.specs.Models.{ModelData, object_at}
use Rattle.qv_syntax.specs.declared.program.Item.{Item}
use Rattle.qvtr_semantics.specs.declared.datum.Datum.{Datum}
use Rattle.qvtr_semantics.specs.declared.datum.Datum.TheVariants.{Obj, Val}
use Rattle.qvtr_semantics.specs.Objects.{object_datum, held_at}
use Rattle.qvtr_semantics.specs.Templates.{Values, ItemMeaning, value_at, has, meets}
use Rattle.qvtr_semantics.proofs.TemplateLaws.{item_of}
use Rattle.repair_semantics.specs.declared.term.TermValue.{TermValue}
use Rattle.repair_semantics.specs.declared.term.TermValue.TheVariants as of
use Rattle.repair_semantics.specs.EntryValues.{TermValues, value_of, data_in, root_values}
use Rattle.repair_semantics.specs.Entries.{TermSource}
use Rattle.example_models.specs.Source.{attribute_name, attribute_prim, attribute_count, class_number, class_object, attribute_object, source_data}
use Rattle.example_program.specs.Words.{the_text, value_item, object_item, template, source_domain}
use Rattle.example_program.specs.MainProgram.{with_part, prim_attr, nested_attr, attr_to_column, prim_to_column, nested_to_column, super_to_column, main_program_data}
use Rattle.example_program.proofs.Tests.{not_listed}
use Rattle.example_laws.specs.ExampleModels.{first_models}
use Rattle.example_laws.specs.ExampleEntries.{text_value, source_value, table_term, attribute_number, columns_entry, attribute_entry}
use Rattle.example_laws.proofs.SourceObjects.{class_apart, owner_apart}
use Rattle.example_laws.proofs.Reading.{s, the, same_text, same_number, same_object, text_there, object_there, IsClass, class_there, IsAttribute, attribute_there, held_is}
use Rattle.example_laws.proofs.SourcePatterns.{only_datum, none_there, all_there, items_hold, first_value, other_items, first_object}
use Rattle.example_laws.proofs.BindingLaws.{text_read, value_there, may_have, matching, without_value}

-- what is handed on: the class, its table and the empty prefix
abbrev pub handed_on : ℕ → ℕ → List TermValue
handed_on seed i = source_value (class_number seed i) ∷ of.Term (table_term i) ∷ text_value [] ∷ []

-- ---- AttrToColumn: all of its variables are roots

pub columns_binding : (n seed i : ℕ) (b : TermValues) → TermSource main_program_data (first_models n seed) attr_to_column (root_values attr_to_column (handed_on seed i)) b
    → b ≡ (columns_entry seed i).values
columns_binding n seed i b source = ext_get_or None b (columns_entry seed i).values source.places each
  where
    each : (v : ℕ) → v < length b → value_of b v ≡ value_of (columns_entry seed i).values v
    each zero less = source.extends 0 (source_value (class_number seed i)) refl
    each (suc zero) less = source.extends 1 (of.Term (table_term i)) refl
    each (suc (suc zero)) less = source.extends 2 (text_value []) refl
    each (suc (suc (suc v))) less = let places : length b ≡ 3 = source.places in absurd (omega (arith, less, places))

-- ---- PrimToColumn

-- a number of a run
record IsInRun (a count : ℕ) (d : Datum) : Type 0 where
  place : ℕ
  few : place < count
  is : d ≡ Obj 0 (record { 0 = a + place })

run_holds : (a count : ℕ) → All (IsInRun a count) (map (object_datum 0) (range_with_len a count))
run_holds a zero = All-nil (IsInRun a zero)
run_holds a (suc count) =
    let first : a + 0 ≡ a = omega arith in
    All-cons (IsInRun a (suc count)) (Obj 0 (record { 0 = a })) (map (object_datum 0) (range_with_len (a + 1) count))
    (record { place = 0; few = omega arith; is = ap (λ (o : ℕ). Obj 0 (record { 0 = o })) (sym first) })
    (later (map (object_datum 0) (range_with_len (a + 1) count)) (run_holds (a + 1) count))
  where
    moved : (d : Datum) → IsInRun (a + 1) count d → IsInRun a (suc count) d
    moved d h =
        let few = h.few in
        let next : a + 1 + h.place ≡ a + (h.place + 1) = omega arith in
        record { place = h.place + 1; few = omega (arith, few); is = h.is ∙ ap (λ (o : ℕ). Obj 0 (record { 0 = o })) next }

    later : (ds : List Datum) → All (IsInRun (a + 1) count) ds → All (IsInRun a (suc count)) ds
    later ds all = All-weaker (IsInRun (a + 1) count) (IsInRun a (suc count)) moved ds all

module _ (n seed i : ℕ) (b : TermValues) (source : TermSource main_program_data (first_models n seed) prim_to_column (root_values prim_to_column (handed_on seed i)) b) where
  abbrev models : List ModelData
  models = first_models n seed

  abbrev roots : TermValues
  roots = root_values prim_to_column (handed_on seed i)

  abbrev read : Values
  read = data_in b

  name : (t : List ℕ) × (value_at read 0 ≡ Some (Val 0 (values.Str t)))
  name = text_there n seed (codes "an") (value_at read 0) (may_have main_program_data models prim_to_column roots b source 0 (0, omega arith, refl))

  prim : (t : List ℕ) × (value_at read 1 ≡ Some (Val 0 (values.Str t)))
  prim = text_there n seed (codes "pt") (value_at read 1) (may_have main_program_data models prim_to_column roots b source 1 (1, omega arith, refl))

  object : (o : ℕ) × (value_at read 3 ≡ Some (the n seed o)) × IsClass n seed o
  object =
      let o = object_there n seed (codes "c") 2 (value_at read 3) (may_have main_program_data models prim_to_column roots b source 3 (2, omega arith, refl)) in
      (o.0, o.1, class_there n seed o.0 o.2)

  attribute : (o : ℕ) × (value_at read 4 ≡ Some (the n seed o)) × IsAttribute n seed o
  attribute =
      let o = object_there n seed (codes "a") 3 (value_at read 4) (may_have main_program_data models prim_to_column roots b source 4 (3, omega arith, refl)) in
      (o.0, o.1, attribute_there n seed o.0 o.2)

  -- it is the class that was handed on
  class_is : object.2.class ≡ i
  class_is =
      let root = source.extends 3 (source_value (class_number seed i)) refl in
      class_apart seed object.2.class i (sym object.2.number ∙ same_object object.0 (class_number seed i) (sym (value_there b 3 (the n seed object.0) object.1) ∙ root))

  object_is : object_at (source_data n seed) object.0 ≡ Some (class_object seed i (attribute_count seed i))
  object_is = object.2.object ∙ ap (λ l. Some (class_object seed l (attribute_count seed l))) class_is

  abbrev parts : List Item
  parts = value_item 0 (the_text 0) ∷ value_item 9 (the_text 1) ∷ []

  abbrev IsHeld : ℕ → List Item → Type 0
  IsHeld o its = list_all (λ (item : ItemMeaning). item read (the n seed o)) (map (item_of main_program_data models) its) ≡ true

  held : IsHeld object.0 (object_item 7 (template 4 3 parts) ∷ [])
  held = items_hold main_program_data models read 3 2 (object_item 7 (template 4 3 parts) ∷ []) (the n seed object.0) object.1
      (matching main_program_data models prim_to_column roots b source (source_domain 3 (with_part 3 2 7 prim_attr)) (0, omega arith, refl))

  within : (has (held_at (s n seed) (the n seed object.0) 7) (value_at read 4) ≡ true) × (meets main_program_data models (template 4 3 parts) read ≡ true)
  within = first_object main_program_data models read 7 4 3 parts (the n seed object.0) [] held

  -- the attribute is one of the class
  placed : IsInRun (class_number seed i + 1) (attribute_count seed i) (the n seed attribute.0)
  placed =
      all_there (IsInRun (class_number seed i + 1) (attribute_count seed i)) (held_at (s n seed) (the n seed object.0) 7) (the n seed attribute.0)
      (map (object_datum 0) (range_with_len (class_number seed i + 1) (attribute_count seed i)))
      (held_is n seed object.0 7 (Some (class_object seed i (attribute_count seed i))) object_is) (run_holds (class_number seed i + 1) (attribute_count seed i))
      (ap (has (held_at (s n seed) (the n seed object.0) 7)) (sym attribute.1) ∙ within.0)

  numbered : attribute.0 ≡ class_number seed i + 1 + placed.place
  numbered = same_number attribute.0 (class_number seed i + 1 + placed.place) placed.is

  abbrev j : ℕ
  j = attribute.2.attribute

  owner_is : attribute.2.class ≡ i
  owner_is = owner_apart seed attribute.2.class i j placed.place attribute.2.few placed.few (sym attribute.2.number ∙ numbered)

  few_are : j < attribute_count seed i
  few_are = subst (λ l. j < attribute_count seed l) owner_is attribute.2.few

  number_is : attribute.0 ≡ attribute_number seed i j
  number_is = attribute.2.number ∙ ap (λ l. attribute_number seed l j) owner_is

  attribute_is : object_at (source_data n seed) attribute.0 ≡ Some (attribute_object seed i j)
  attribute_is = attribute.2.object ∙ ap (λ l. Some (attribute_object seed l j)) owner_is

  texts : IsHeld attribute.0 parts
  texts = items_hold main_program_data models read 4 3 parts (the n seed attribute.0) attribute.1 within.1

  named : name.0 ≡ attribute_name j
  named =
      let o = attribute.0 in
      let there = first_value main_program_data models read 0 (the_text 0) (the n seed o) (value_item 9 (the_text 1) ∷ []) texts in
      same_text name.0 (attribute_name j)
      (only_datum (held_at (s n seed) (the n seed o) 0) (Val 0 (values.Str name.0)) (Val 0 (values.Str (attribute_name j)))
      (held_is n seed o 0 (Some (attribute_object seed i j)) attribute_is)
      (ap (has (held_at (s n seed) (the n seed o) 0)) (sym (text_read main_program_data models read 0 (Val 0 (values.Str name.0)) name.1)) ∙ there))

  typed : prim.0 ≡ attribute_prim seed i j
  typed =
      let o = attribute.0 in
      let last = other_items main_program_data models read (value_item 0 (the_text 0)) (the n seed o) (value_item 9 (the_text 1) ∷ []) texts in
      let there = first_value main_program_data models read 9 (the_text 1) (the n seed o) [] last in
      same_text prim.0 (attribute_prim seed i j)
      (only_datum (held_at (s n seed) (the n seed o) 9) (Val 0 (values.Str prim.0)) (Val 0 (values.Str (attribute_prim seed i j)))
      (held_is n seed o 9 (Some (attribute_object seed i j)) attribute_is)
      (ap (has (held_at (s n seed) (the n seed o) 9)) (sym (text_read main_program_data models read 1 (Val 0 (values.Str prim.0)) prim.1)) ∙ there))

  each : (v : ℕ) → v < length b → value_of b v ≡ value_of (attribute_entry seed i j).values v
  each zero less = value_there b 0 (Val 0 (values.Str name.0)) name.1 ∙ ap (λ t. Some (text_value t)) named
  each (suc zero) less = value_there b 1 (Val 0 (values.Str prim.0)) prim.1 ∙ ap (λ t. Some (text_value t)) typed
  each (suc (suc zero)) less =
      without_value main_program_data models prim_to_column roots b source 2 (not_listed (0 ∷ 1 ∷ 3 ∷ 4 ∷ 7 ∷ []) 2 refl) (not_listed (0 ∷ 1 ∷ 3 ∷ 4 ∷ 7 ∷ []) 2 refl) refl
  each (suc (suc (suc zero))) less = source.extends 3 (source_value (class_number seed i)) refl
  each (suc (suc (suc (suc zero)))) less = value_there b 4 (the n seed attribute.0) attribute.1 ∙ ap (λ o. Some (source_value o)) number_is
  each (suc (suc (suc (suc (suc zero))))) less = source.extends 5 (of.Term (table_term i)) refl
  each (suc (suc (suc (suc (suc (suc zero)))))) less =
      without_value main_program_data models prim_to_column roots b source 6 (not_listed (0 ∷ 1 ∷ 3 ∷ 4 ∷ 7 ∷ []) 6 refl) (not_listed (0 ∷ 1 ∷ 3 ∷ 4 ∷ 7 ∷ []) 6 refl) refl
  each (suc (suc (suc (suc (suc (suc (suc zero))))))) less = source.extends 7 (text_value []) refl
  each (suc (suc (suc (suc (suc (suc (suc (suc v)))))))) less = let places : length b ≡ 8 = source.places in absurd (omega (arith, less, places))

  -- it is that of an attribute of the class
  pub attribute_binding : (j : ℕ) × (j < attribute_count seed i) × (b ≡ (attribute_entry seed i j).values)
  attribute_binding = (j, few_are, ext_get_or None b (attribute_entry seed i j).values source.places each)

-- ---- NestedToColumn: no attribute has a reference

module _ (n seed : ℕ) (roots b : TermValues) (source : TermSource main_program_data (first_models n seed) nested_to_column roots b) where
  pub none_nested : ⊥
  none_nested =
      let models = first_models n seed in
      let read : Values = data_in b in
      let c = object_there n seed (codes "c") 2 (value_at read 1) (may_have main_program_data models nested_to_column roots b source 1 (1, omega arith, refl)) in
      let a = object_there n seed (codes "a") 3 (value_at read 2) (may_have main_program_data models nested_to_column roots b source 2 (2, omega arith, refl)) in
      let d = object_there n seed (codes "d") 2 (value_at read 3) (may_have main_program_data models nested_to_column roots b source 3 (3, omega arith, refl)) in
      let is = attribute_there n seed a.0 a.2 in
      let parts : List Item = value_item 0 (the_text 0) ∷ object_item 10 (template 3 2 []) ∷ [] in
      let held = items_hold main_program_data models read 1 2 (object_item 7 (template 2 3 parts) ∷ []) (the n seed c.0) c.1
      (matching main_program_data models nested_to_column roots b source (source_domain 1 (with_part 1 2 7 nested_attr)) (0, omega arith, refl)) in
      let within = first_object main_program_data models read 7 2 3 parts (the n seed c.0) [] held in
      let texts = items_hold main_program_data models read 2 3 parts (the n seed a.0) a.1 within.1 in
      let last = other_items main_program_data models read (value_item 0 (the_text 0)) (the n seed a.0) (object_item 10 (template 3 2 []) ∷ []) texts in
      let there = first_object main_program_data models read 10 3 2 [] (the n seed a.0) [] last in
      none_there (held_at (s n seed) (the n seed a.0) 10) (the n seed d.0)
      (held_is n seed a.0 10 (Some (attribute_object seed is.class is.attribute)) is.object)
      (ap (has (held_at (s n seed) (the n seed a.0) 10)) (sym d.1) ∙ there.0)

-- ---- SuperToColumn: no class has a parent

module _ (n seed : ℕ) (roots b : TermValues) (source : TermSource main_program_data (first_models n seed) super_to_column roots b) where
  pub none_above : ⊥
  none_above =
      let models = first_models n seed in
      let read : Values = data_in b in
      let c = object_there n seed (codes "c") 2 (value_at read 0) (may_have main_program_data models super_to_column roots b source 0 (0, omega arith, refl)) in
      let d = object_there n seed (codes "d") 2 (value_at read 1) (may_have main_program_data models super_to_column roots b source 1 (1, omega arith, refl)) in
      let is = class_there n seed c.0 c.2 in
      let held = items_hold main_program_data models read 0 2 (object_item 4 (template 1 2 []) ∷ []) (the n seed c.0) c.1
      (matching main_program_data models super_to_column roots b source (source_domain 0 (with_part 0 2 4 (template 1 2 []))) (0, omega arith, refl)) in
      let there = first_object main_program_data models read 4 1 2 [] (the n seed c.0) [] held in
      none_there (held_at (s n seed) (the n seed c.0) 4) (the n seed d.0)
      (held_is n seed c.0 4 (Some (class_object seed is.class (attribute_count seed is.class))) is.object)
      (ap (has (held_at (s n seed) (the n seed c.0) 4)) (sym d.1) ∙ there.0)
