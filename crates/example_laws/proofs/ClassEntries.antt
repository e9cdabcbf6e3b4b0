-- The bindings of ClassToTable: those of the classes of the source, each with a term for the schema of its package.
use Rattle.std.proofs.Common.{◌≡◌, ◌<◌, ◌/◌, ℕ, zero, suc, true, List, [], ◌∷◌, map, length, None, Some, refl, sym, ap, ◌∙◌, arith}
use Rattle.std.specs.Prelude.{codes}
use Rattle.std.specs.List.{list_all}
use Rattle.std.proofs.lemmas.List.{ext_get_or}
use Rattle.object_tables.specs.declared.value.Value.TheVariants as values
use Rattle.object_tables.specs.Models.{ModelData}
use Rattle.qv_syntax.specs.declared.program.Item.{Item}
use Rattle.qvtr_semantics.specs.declared.datum.Datum.TheVariants.{Val}
use Rattle.qvtr_semantics.specs.Objects.{held_at}
use Rattle.qvtr_semantics.specs.Templates.{Values, ItemMeaning, value_at, has}
use Rattle.qvtr_semantics.proofs.TemplateLaws.{item_of}
use Rattle.repair_semantics.specs.declared.term.Term.{Term}
use Rattle.repair_semantics.specs.declared.term.TermValue.TheVariants as of
use Rattle.repair_semantics.specs.EntryValues.{TermValues, value_of, data_in, no_values}
use Rattle.repair_semantics.specs.Entries.{TermSource}
use Rattle.example_models.specs.Source.{class_name, attribute_count, package_number, class_number, class_object}
use Rattle.example_program.specs.Words.{text, the_text, value_item, object_item, template, source_domain}
use Rattle.example_program.specs.MainProgram.{class_pattern, class_to_table, main_program_data}
use Rattle.example_program.proofs.Tests.{not_listed}
use Rattle.example_laws.specs.ExampleModels.{first_models}
use Rattle.example_laws.specs.ExampleEntries.{text_value, source_value}
use Rattle.example_laws.proofs.Reading.{s, the, same_text, same_number, text_there, object_there, IsClass, class_there, held_is}
use Rattle.example_laws.proofs.SourcePatterns.{only_datum, items_hold, first_value, other_items, first_object}
use Rattle.example_laws.proofs.BindingLaws.{text_read, value_there, may_have, matching, without_value}

-- cn, c, p and s
abbrev pub class_values : ℕ → ℕ → Term → TermValues
class_values seed i t =
    Some (text_value (class_name i)) ∷ Some (source_value (class_number seed i)) ∷ Some (source_value (package_number seed (i / 100))) ∷ None ∷ Some (of.Term t) ∷ []

module _ (n seed : ℕ) (b : TermValues) (source : TermSource main_program_data (first_models n seed) class_to_table (no_values class_to_table) b) where
  abbrev models : List ModelData
  models = first_models n seed

  abbrev read : Values
  read = data_in b

  name : (t : List ℕ) × (value_at read 0 ≡ Some (Val 0 (values.Str t)))
  name = text_there n seed (codes "cn") (value_at read 0) (may_have main_program_data models class_to_table (no_values class_to_table) b source 0 (0, omega arith, refl))

  object : (o : ℕ) × (value_at read 1 ≡ Some (the n seed o)) × IsClass n seed o
  object =
      let o = object_there n seed (codes "c") 2 (value_at read 1) (may_have main_program_data models class_to_table (no_values class_to_table) b source 1 (1, omega arith, refl)) in
      (o.0, o.1, class_there n seed o.0 o.2)

  owner : (o : ℕ) × (value_at read 2 ≡ Some (the n seed o))
  owner =
      let o = object_there n seed (codes "p") 1 (value_at read 2) (may_have main_program_data models class_to_table (no_values class_to_table) b source 2 (2, omega arith, refl)) in
      (o.0, o.1)

  schema : (t : Term) × (value_of b 4 ≡ Some (of.Term t))
  schema = source.terms 4 (record { universal = (3, omega arith, refl); target = refl })

  abbrev class : ℕ
  class = object.2.class

  abbrev after_owner : List Item
  after_owner = value_item 3 (text (codes "persistent")) ∷ value_item 0 (the_text 0) ∷ []

  abbrev IsHeld : List Item → Type 0
  IsHeld its = list_all (λ (i : ItemMeaning). i read (the n seed object.0)) (map (item_of main_program_data models) its) ≡ true

  held : IsHeld (object_item 2 (template 2 1 []) ∷ after_owner)
  held = items_hold main_program_data models read 1 2 (object_item 2 (template 2 1 []) ∷ after_owner) (the n seed object.0) object.1
      (matching main_program_data models class_to_table (no_values class_to_table) b source (source_domain 1 class_pattern) (0, omega arith, refl))

  owned : owner.0 ≡ package_number seed (class / 100)
  owned =
      let o = object.0 in
      let there = first_object main_program_data models read 2 2 1 [] (the n seed o) after_owner held in
      same_number owner.0 (package_number seed (class / 100))
      (only_datum (held_at (s n seed) (the n seed o) 2) (the n seed owner.0) (the n seed (package_number seed (class / 100)))
      (held_is n seed o 2 (Some (class_object seed class (attribute_count seed class))) object.2.object)
      (ap (has (held_at (s n seed) (the n seed o) 2)) (sym owner.1) ∙ there.0))

  named : name.0 ≡ class_name class
  named =
      let o = object.0 in
      let later = other_items main_program_data models read (object_item 2 (template 2 1 [])) (the n seed o) after_owner held in
      let last = other_items main_program_data models read (value_item 3 (text (codes "persistent"))) (the n seed o) (value_item 0 (the_text 0) ∷ []) later in
      let there = first_value main_program_data models read 0 (the_text 0) (the n seed o) [] last in
      same_text name.0 (class_name class)
      (only_datum (held_at (s n seed) (the n seed o) 0) (Val 0 (values.Str name.0)) (Val 0 (values.Str (class_name class)))
      (held_is n seed o 0 (Some (class_object seed class (attribute_count seed class))) object.2.object)
      (ap (has (held_at (s n seed) (the n seed o) 0)) (sym (text_read main_program_data models read 0 (Val 0 (values.Str name.0)) name.1)) ∙ there))

  each : (v : ℕ) → v < length b → value_of b v ≡ value_of (class_values seed class schema.0) v
  each zero less = value_there b 0 (Val 0 (values.Str name.0)) name.1 ∙ ap (λ t. Some (text_value t)) named
  each (suc zero) less = value_there b 1 (the n seed object.0) object.1 ∙ ap (λ o. Some (source_value o)) object.2.number
  each (suc (suc zero)) less = value_there b 2 (the n seed owner.0) owner.1 ∙ ap (λ o. Some (source_value o)) owned
  each (suc (suc (suc zero))) less =
      without_value main_program_data models class_to_table (no_values class_to_table) b source 3 (not_listed (0 ∷ 1 ∷ 2 ∷ []) 3 refl) (not_listed (0 ∷ 1 ∷ 2 ∷ 4 ∷ []) 3 refl) refl
  each (suc (suc (suc (suc zero)))) less = schema.1
  each (suc (suc (suc (suc (suc v))))) less = let places : length b ≡ 5 = source.places in absurd (omega (arith, less, places))

  -- it is that of a class, with some schema
  pub class_binding : (i : ℕ) × (i < n) × (t : Term) × (b ≡ class_values seed i t)
  class_binding = (class, object.2.below, schema.0, ext_get_or None b (class_values seed class schema.0) source.places each)
