-- The calls that the entries of the example make: in when clauses, that of its package for a class; in where clauses, the columns of a class, and their parts.
use Rattle.std.proofs.Common.{◌≡◌, ◌/◌, ℕ, Bool, false, List, [], ◌∷◌, Option, Some, refl, ap, ◌∙◌}
use Rattle.std.specs.Prelude.{slice_get, if◌then◌else◌}
use Rattle.std.specs.List.{filter_map}
use Rattle.std.specs.Option.{option_and_then}
use Rattle.object_tables.specs.Models.{ModelData}
use Rattle.qv_syntax.specs.declared.program.Program.{Program}
use Rattle.qv_syntax.specs.declared.program.Rel.{Rel}
use Rattle.qv_syntax.specs.declared.ty.Ty.{Ty}
use Rattle.qv_syntax.specs.declared.ty.Ty.TheVariants as types
use Rattle.qv_syntax.specs.declared.typed.Typed.{Typed}
use Rattle.qv_syntax.specs.declared.typed.Node.TheVariants as nodes
use Rattle.qvtr_semantics.specs.Outs.{all_given}
use Rattle.repair_semantics.specs.declared.term.Term.{Term}
use Rattle.repair_semantics.specs.declared.term.TermValue.{TermValue}
use Rattle.repair_semantics.specs.declared.term.TermValue.TheVariants as of
use Rattle.repair_semantics.specs.declared.entry.EntryName.{EntryName}
use Rattle.repair_semantics.specs.EntryValues.{value_of, Known, known, given_out, given_by, given_value}
use Rattle.repair_semantics.specs.Making.{entry_known}
use Rattle.repair_semantics.specs.Unmet.{is_unmet}
use Rattle.repair_semantics.specs.Entries.{call_to, named_call, calls_in, calls_where, entry_calls}
use Rattle.example_models.specs.Source.{package_number, class_number}
use Rattle.example_program.specs.Words.{source, target, text, the_text, the_object, class_of}
use Rattle.example_program.specs.MainProgram.{package_to_schema, class_to_table, attr_to_column, prim_to_column, main_program_data}
use Rattle.example_laws.specs.ExampleModels.{first_models}
use Rattle.example_laws.specs.ExampleEntries.{text_value, source_value, table_term, package_entry, class_entry, columns_entry, attribute_entry}
use Rattle.example_laws.proofs.ValueLaws as forms
use Rattle.example_laws.proofs.KnownLaws.{known_with, package_met, class_scope, class_all, class_known, class_met, columns_scope, columns_all, columns_known, columns_met, attribute_met}
use Rattle.example_laws.proofs.ClassEntries.{class_values}
use Rattle.example_laws.proofs.ColumnEntries.{handed_on}

-- a call of the relation with a class, its table and the empty prefix
abbrev pub call_with : ℕ → ℕ → ℕ → EntryName
call_with relation seed i = record { rel = relation; roots = handed_on seed i }

-- the call of PackageToSchema with the package of a class and a term
abbrev pub package_call : ℕ → ℕ → Term → EntryName
package_call seed i t = record { rel = 0; roots = source_value (package_number seed (i / 100)) ∷ of.Term t ∷ [] }

module _ (n seed : ℕ) where
  abbrev P : Program
  P = main_program_data

  abbrev M : List ModelData
  M = first_models n seed

  -- ---- arguments

  variable_given : (k : Known) (ty : Ty) (v : ℕ) (x : TermValue) → value_of k.values v ≡ Some x → given_value P M k (record { ty = ty; node = nodes.Variable v }) ≡ Some x
  variable_given k ty v x h = ap (given_by P M k (record { ty = ty; node = nodes.Variable v })) (forms.alone ty v) ∙ h

  text_given : (k : Known) (t : List ℕ) → given_value P M k (text t) ≡ Some (text_value t)
  text_given k t = ap (given_by P M k (text t)) (forms.text_not_alone t) ∙ ap given_out (forms.text_value P M t k.scope)

  abbrev called : ℕ → List (Option TermValue) → Option EntryName
  called number xs = option_and_then (call_to number (slice_get P.rels number)) (all_given xs)

  two_given : (k : Known) (number : ℕ) (e f : Typed) (x y : TermValue) → given_value P M k e ≡ Some x → given_value P M k f ≡ Some y
      → named_call P M k number (e ∷ f ∷ []) ≡ called number (Some x ∷ Some y ∷ [])
  two_given k number e f x y g h =
      ap (λ (o : Option TermValue). called number (o ∷ given_value P M k f ∷ [])) g
      ∙ ap (λ (o : Option TermValue). called number (Some x ∷ o ∷ [])) h

  three_given : (k : Known) (number : ℕ) (e f d : Typed) (x y z : TermValue) → given_value P M k e ≡ Some x → given_value P M k f ≡ Some y → given_value P M k d ≡ Some z
      → named_call P M k number (e ∷ f ∷ d ∷ []) ≡ called number (Some x ∷ Some y ∷ Some z ∷ [])
  three_given k number e f d x y z g h l =
      ap (λ (o : Option TermValue). called number (o ∷ given_value P M k f ∷ given_value P M k d ∷ [])) g
      ∙ ap (λ (o : Option TermValue). called number (Some x ∷ o ∷ given_value P M k d ∷ [])) h
      ∙ ap (λ (o : Option TermValue). called number (Some x ∷ Some y ∷ o ∷ [])) l

  -- ---- in when clauses

  pub package_called : (i : ℕ) (t : Term) → calls_in P M (known (class_values seed i t)) class_to_table.whens ≡ Some (package_call seed i t) ∷ []
  package_called i t =
      let k : Known = known (class_values seed i t) in
      ap (λ (c : Option EntryName). c ∷ [])
      (two_given k 0 (the_object 2 source 1) (the_object 4 target 1) (source_value (package_number seed (i / 100))) (of.Term t)
      (variable_given k (class_of source 1) 2 (source_value (package_number seed (i / 100))) refl) (variable_given k (class_of target 1) 4 (of.Term t) refl))

  -- ---- in where clauses

  met_calls : (rel : Rel) (k j : Known) → is_unmet P M rel k ≡ false → k ≡ j → calls_where P M rel k ≡ filter_map (λ (c : Option EntryName). c) (calls_in P M j rel.wheres)
  met_calls rel k j met same =
      ap (λ (b : Bool). if b then [] else filter_map (λ (c : Option EntryName). c) (calls_in P M k rel.wheres)) met
      ∙ ap (λ (l : Known). filter_map (λ (c : Option EntryName). c) (calls_in P M l rel.wheres)) same

  pub package_calls : (k : ℕ) → entry_calls P M (package_entry seed k) ≡ []
  package_calls k = ap (λ (b : Bool). if b then [] else filter_map (λ (c : Option EntryName). c) (calls_in P M (entry_known P M package_to_schema (package_entry seed k).values) [])) (package_met n seed k)

  pub attribute_calls : (i j : ℕ) → entry_calls P M (attribute_entry seed i j) ≡ []
  attribute_calls i j =
      ap (λ (b : Bool). if b then [] else filter_map (λ (c : Option EntryName). c) (calls_in P M (entry_known P M prim_to_column (attribute_entry seed i j).values) prim_to_column.wheres))
      (attribute_met n seed i j)

  module _ (i : ℕ) where
    abbrev class_knows : Known
    class_knows = known_with (class_scope n seed i) (class_all n seed i)

    abbrev columns_know : Known
    columns_know = known_with (columns_scope n seed i) (columns_all n seed i)

    columns_called : named_call P M class_knows 2 (the_object 1 source 2 ∷ the_object 3 target 2 ∷ text [] ∷ []) ≡ Some (call_with 2 seed i)
    columns_called =
        three_given class_knows 2 (the_object 1 source 2) (the_object 3 target 2) (text []) (source_value (class_number seed i)) (of.Term (table_term i)) (text_value [])
        (variable_given class_knows (class_of source 2) 1 (source_value (class_number seed i)) refl) (variable_given class_knows (class_of target 2) 3 (of.Term (table_term i)) refl)
        (text_given class_knows [])

    pub class_calls : entry_calls P M (class_entry seed i) ≡ call_with 2 seed i ∷ []
    class_calls =
        met_calls class_to_table (entry_known P M class_to_table (class_entry seed i).values) class_knows (class_met n seed i) (class_known n seed i)
        ∙ ap (λ (c : Option EntryName). filter_map (λ (d : Option EntryName). d) (c ∷ [])) columns_called

    part_called : (number : ℕ) → named_call P M columns_know number (the_object 0 source 2 ∷ the_object 1 target 2 ∷ the_text 2 ∷ [])
        ≡ called number (Some (source_value (class_number seed i)) ∷ Some (of.Term (table_term i)) ∷ Some (text_value []) ∷ [])
    part_called number =
        three_given columns_know number (the_object 0 source 2) (the_object 1 target 2) (the_text 2) (source_value (class_number seed i)) (of.Term (table_term i)) (text_value [])
        (variable_given columns_know (class_of source 2) 0 (source_value (class_number seed i)) refl) (variable_given columns_know (class_of target 2) 1 (of.Term (table_term i)) refl)
        (variable_given columns_know types.Str 2 (text_value []) refl)

    abbrev listed : Option EntryName → Option EntryName → Option EntryName → List EntryName
    listed a b c = filter_map (λ (d : Option EntryName). d) (a ∷ b ∷ c ∷ [])

    pub columns_calls : entry_calls P M (columns_entry seed i) ≡ call_with 3 seed i ∷ call_with 4 seed i ∷ call_with 5 seed i ∷ []
    columns_calls =
        let args : List Typed = the_object 0 source 2 ∷ the_object 1 target 2 ∷ the_text 2 ∷ [] in
        met_calls attr_to_column (entry_known P M attr_to_column (columns_entry seed i).values) columns_know (columns_met n seed i) (columns_known n seed i)
        ∙ ap (λ (c : Option EntryName). listed c (named_call P M columns_know 4 args) (named_call P M columns_know 5 args)) (part_called 3)
        ∙ ap (λ (c : Option EntryName). listed (Some (call_with 3 seed i)) c (named_call P M columns_know 5 args)) (part_called 4)
        ∙ ap (λ (c : Option EntryName). listed (Some (call_with 3 seed i)) (Some (call_with 4 seed i)) c) (part_called 5)
