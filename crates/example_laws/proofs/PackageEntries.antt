-- The bindings of PackageToSchema: those of the packages of the source.
use Rattle.std.proofs.Common.{◌≡◌, ◌<◌, ℕ, zero, suc, List, [], ◌∷◌, length, None, Some, refl, sym, ap, ◌∙◌, arith}
use Rattle.std.specs.Prelude.{codes}
use Rattle.std.proofs.lemmas.List.{ext_get_or}
use Rattle.object_tables.specs.declared.value.Value.TheVariants as values
use Rattle.object_tables.specs.Models.{ModelData}
use Rattle.qvtr_semantics.specs.declared.datum.Datum.TheVariants.{Val}
use Rattle.qvtr_semantics.specs.Objects.{held_at}
use Rattle.qvtr_semantics.specs.Templates.{Values, value_at, has}
use Rattle.repair_semantics.specs.EntryValues.{TermValues, value_of, data_in, no_values}
use Rattle.repair_semantics.specs.Entries.{TermSource}
use Rattle.example_models.specs.Source.{package_name, package_count, classes_in, package_object}
use Rattle.example_program.specs.Words.{the_text, value_item, template, source_domain}
use Rattle.example_program.specs.MainProgram.{package_to_schema, main_program_data}
use Rattle.example_program.proofs.Tests.{not_listed}
use Rattle.example_laws.specs.ExampleModels.{first_models}
use Rattle.example_laws.specs.ExampleEntries.{text_value, source_value, package_entry}
use Rattle.example_laws.proofs.Reading.{s, the, same_text, text_there, object_there, IsPackage, package_there, held_is}
use Rattle.example_laws.proofs.SourcePatterns.{only_datum, items_hold, first_value}
use Rattle.example_laws.proofs.BindingLaws.{text_read, value_there, may_have, matching, without_value}

module _ (n seed : ℕ) (b : TermValues) (source : TermSource main_program_data (first_models n seed) package_to_schema (no_values package_to_schema) b) where
  abbrev models : List ModelData
  models = first_models n seed

  abbrev read : Values
  read = data_in b

  name : (t : List ℕ) × (value_at read 0 ≡ Some (Val 0 (values.Str t)))
  name = text_there n seed (codes "pn") (value_at read 0) (may_have main_program_data models package_to_schema (no_values package_to_schema) b source 0 (0, omega arith, refl))

  object : (o : ℕ) × (value_at read 1 ≡ Some (the n seed o)) × IsPackage n seed o
  object =
      let o = object_there n seed (codes "p") 1 (value_at read 1) (may_have main_program_data models package_to_schema (no_values package_to_schema) b source 1 (1, omega arith, refl)) in
      (o.0, o.1, package_there n seed o.0 o.2)

  abbrev which : ℕ
  which = object.2.which

  named : name.0 ≡ package_name which
  named =
      let o = object.0 in
      let held = items_hold main_program_data models read 1 1 (value_item 0 (the_text 0) ∷ []) (the n seed o) object.1
      (matching main_program_data models package_to_schema (no_values package_to_schema) b source (source_domain 1 (template 1 1 (value_item 0 (the_text 0) ∷ []))) (0, omega arith, refl)) in
      let there = first_value main_program_data models read 0 (the_text 0) (the n seed o) [] held in
      same_text name.0 (package_name which)
      (only_datum (held_at (s n seed) (the n seed o) 0) (Val 0 (values.Str name.0)) (Val 0 (values.Str (package_name which)))
      (held_is n seed o 0 (Some (package_object seed which (classes_in n which))) object.2.object)
      (ap (has (held_at (s n seed) (the n seed o) 0)) (sym (text_read main_program_data models read 0 (Val 0 (values.Str name.0)) name.1)) ∙ there))

  each : (v : ℕ) → v < length b → value_of b v ≡ value_of (package_entry seed which).values v
  each zero less = value_there b 0 (Val 0 (values.Str name.0)) name.1 ∙ ap (λ t. Some (text_value t)) named
  each (suc zero) less = value_there b 1 (the n seed object.0) object.1 ∙ ap (λ o. Some (source_value o)) object.2.number
  each (suc (suc zero)) less =
      without_value main_program_data models package_to_schema (no_values package_to_schema) b source 2 (not_listed (0 ∷ 1 ∷ []) 2 refl) (not_listed (0 ∷ 1 ∷ []) 2 refl) refl
  each (suc (suc (suc v))) less = let places : length b ≡ 3 = source.places in absurd (omega (arith, less, places))

  -- it is that of a package
  pub package_binding : (k : ℕ) × (k < package_count n) × (b ≡ (package_entry seed k).values)
  package_binding = (which, object.2.below, ext_get_or None b (package_entry seed which).values source.places each)
