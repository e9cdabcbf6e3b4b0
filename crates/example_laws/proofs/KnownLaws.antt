-- What is known in the entries of the example, and that each is met.
use Rattle.std.proofs.Common.{◌≡◌, ◌/◌, ℕ, suc, Bool, true, false, List, [], ◌∷◌, ◌++◌, map, None, Some, refl, ap, ◌∙◌}
use Rattle.std.specs.Prelude.{Option, ◌&&◌, ◌||◌, not, is_none, is_some, if◌then◌else◌}
use Rattle.std.specs.List.{list_any}
use Rattle.std.specs.Option.{option_map}
use Rattle.object_tables.specs.Models.{ModelData}
use Rattle.object_tables.specs.declared.value.Value.TheVariants as values
use Rattle.qv_syntax.specs.declared.program.Program.{Program}
use Rattle.qv_syntax.specs.declared.program.Rel.{Rel}
use Rattle.qv_syntax.specs.declared.program.Conj.{Conj}
use Rattle.qv_syntax.specs.declared.ty.Ty.TheVariants as types
use Rattle.qv_syntax.specs.declared.typed.Typed.{Typed}
use Rattle.qvtr_semantics.specs.declared.datum.Datum.TheVariants.{Obj, Val}
use Rattle.qvtr_semantics.specs.declared.out.Out.{Out}
use Rattle.qvtr_semantics.specs.declared.out.Out.TheVariants as outs
use Rattle.qvtr_semantics.specs.Outs.{datum_of, all_given}
use Rattle.qvtr_semantics.specs.Expressions.{Scope, scope_of}
use Rattle.template_match.specs.Sources.{is_target_variable}
use Rattle.repair_semantics.specs.declared.term.TermValue.{TermValue}
use Rattle.repair_semantics.specs.declared.term.TermValue.TheVariants as of
use Rattle.repair_semantics.specs.declared.entry.Place.{Place}
use Rattle.repair_semantics.specs.declared.entry.Place.TheVariants as places
use Rattle.repair_semantics.specs.EntryValues.{TermValues, value_of, Known, variable_alone, given_by, given_out, is_target_one}
use Rattle.repair_semantics.specs.TargetItems.{TargetItem, target_items}
use Rattle.repair_semantics.specs.Making.{keyed, with_terms, scope_within, entry_scope, known_by, entry_known, others_in, made_values}
use Rattle.repair_semantics.specs.Unmet.{is_lacking, is_content_lacking, item_places, is_conjunct_unmet, conjunct_places, first_place, is_unmet}
use Rattle.example_models.specs.Source.{package_name, class_name, attribute_name, attribute_prim, package_number, class_number}
use Rattle.example_program.specs.Words.{source, target, text, the_text, the_object}
use Rattle.example_program.specs.MainProgram.{main_program_data, package_to_schema, class_to_table, attr_to_column, prim_to_column}
use Rattle.example_laws.specs.ExampleModels.{first_models}
use Rattle.example_laws.specs.ExampleEntries.{text_value, source_value, schema_term, table_term, column_term, attribute_number, package_entry, class_entry, columns_entry, attribute_entry}
use Rattle.example_laws.proofs.ValueLaws as forms
use Rattle.example_laws.proofs.ItemsLaws.{schema_items, table_items, column_items, schema_items_are, table_items_are, columns_items_are, column_items_are}
use Rattle.example_laws.proofs.PlainValues.{Plain, value_told, datum_told, data_told, found_within}

abbrev pub known_with : Scope → TermValues → Known
known_with scope b = record { values = b; scope = scope }

-- ---- where all is given, nothing is unmet

and_false : (a : Bool) → (a && false) ≡ false
and_false true = refl
and_false false = refl

module _ (program : Program) (models : List ModelData) (rel : Rel) (k : Known) where
  -- a variable that has a value, and a text
  pub variable_given : (e : Typed) (v : ℕ) (x : TermValue) → variable_alone e ≡ Some v → value_of k.values v ≡ Some x → is_lacking program models rel k e ≡ false
  variable_given e v x a h =
      ap (λ o. not (is_target_one program rel o) && is_none (given_by program models k e o)) a ∙ ap (λ (o : Option TermValue). not (is_target_variable program rel v) && is_none o) h
      ∙ and_false (not (is_target_variable program rel v))

  pub text_given : (t : List ℕ) → is_lacking program models rel k (text t) ≡ false
  text_given t =
      ap (λ o. not (is_target_one program rel o) && is_none (given_by program models k (text t) o)) (forms.text_not_alone t)
      ∙ ap (λ (x : Out). not false && is_none (given_out x)) (forms.text_value program models t k.scope)

  AreGiven : List Typed → Type 0
  AreGiven [] = Unit {0}
  AreGiven (e ∷ es) = (is_lacking program models rel k e ≡ false) × AreGiven es

  AreFilled : List TargetItem → Type 0
  AreFilled [] = Unit {0}
  AreFilled (i ∷ is) = (is_content_lacking program models rel k i.content ≡ false) × AreFilled is

  AreKept : List Conj → Type 0
  AreKept [] = Unit {0}
  AreKept (c ∷ cs) = (is_conjunct_unmet program models rel k c ≡ false) × AreKept cs

  arguments_given : (es : List Typed) → AreGiven es → list_any (is_lacking program models rel k) es ≡ false
  unfolding AreGiven
  arguments_given [] h = refl
  arguments_given (e ∷ es) h = ap (λ b. b || list_any (is_lacking program models rel k) es) h.0 ∙ arguments_given es h.1

  items_filled : (is : List TargetItem) → AreFilled is → item_places program models rel k is ≡ []
  unfolding AreFilled
  items_filled [] h = refl
  items_filled (i ∷ is) h =
      ap (λ (b : Bool). if b then places.Item i.prop ∷ item_places program models rel k is else item_places program models rel k is) h.0 ∙ items_filled is h.1

  conjuncts_kept : (before : ℕ) (cs : List Conj) → AreKept cs → conjunct_places program models rel k before cs ≡ []
  unfolding AreKept
  conjuncts_kept before [] h = refl
  conjuncts_kept before (c ∷ cs) h =
      ap (λ (b : Bool). if b then places.Where (suc before) ∷ conjunct_places program models rel k (suc before) cs else conjunct_places program models rel k (suc before) cs) h.0
      ∙ conjuncts_kept (suc before) cs h.1

  met_by : (items : List TargetItem) → target_items program rel ≡ items → AreFilled items → AreKept rel.wheres → is_unmet program models rel k ≡ false
  met_by items is filled kept =
      ap (λ (its : List TargetItem). is_some (first_place (item_places program models rel k its ++ conjunct_places program models rel k 0 rel.wheres))) is
      ∙ ap (λ (ps : List Place). is_some (first_place (ps ++ conjunct_places program models rel k 0 rel.wheres))) (items_filled items filled)
      ∙ ap (λ (ps : List Place). is_some (first_place ([] ++ ps))) (conjuncts_kept 0 rel.wheres kept)

-- ---- the entries

module _ (n seed : ℕ) where
  abbrev P : Program
  P = main_program_data

  abbrev M : List ModelData
  M = first_models n seed

  -- ---- of a package

  module _ (k : ℕ) where
    abbrev package_plain : List Plain
    package_plain = Plain.text (package_name k) ∷ Plain.object (package_number seed k) ∷ Plain.nothing ∷ []

    abbrev package_values : TermValues
    package_values = map value_told package_plain

    abbrev pub package_scope : Scope
    package_scope = scope_of (map datum_told package_plain)

    abbrev package_with : Option TermValue → TermValues
    package_with x = Some (text_value (package_name k)) ∷ Some (source_value (package_number seed k)) ∷ x ∷ []

    -- the values of all variables
    abbrev pub package_all : TermValues
    package_all = package_with (Some (of.Term (schema_term k)))

    package_round : (b : TermValues) → value_of b 0 ≡ Some (text_value (package_name k)) → with_terms P M package_to_schema schema_items package_scope package_values b ≡ package_all
    package_round b h =
        ap (λ (o : Option ℕ). package_with (option_map (keyed 1) (all_given (given_by P M (known_with package_scope b) (the_text 0) o ∷ [])))) (forms.alone types.Str 0)
        ∙ ap (λ (x : Option TermValue). package_with (option_map (keyed 1) (all_given (x ∷ [])))) h

    pub package_known : entry_known P M package_to_schema (package_entry seed k).values ≡ known_with package_scope package_all
    package_known =
        ap (λ (its : List TargetItem). known_by P M package_to_schema its package_values (entry_scope P M package_to_schema package_values)) schema_items_are
        ∙ ap (λ ds. known_by P M package_to_schema schema_items package_values (scope_of ds)) (data_told package_plain)
        ∙ ap (known_with package_scope)
        (found_within P M package_to_schema schema_items package_scope package_values package_all (package_round package_values refl) (package_round package_all refl) 2)

    pub package_made : made_values P M package_to_schema (package_entry seed k).values ≡ (package_entry seed k).made
    package_made = ap (λ (x : Known). others_in package_to_schema package_values x.values) package_known

    pub package_met : is_unmet P M package_to_schema (entry_known P M package_to_schema (package_entry seed k).values) ≡ false
    unfolding AreFilled AreKept
    package_met =
        let all : Known = known_with package_scope package_all in
        ap (is_unmet P M package_to_schema) package_known
        ∙ met_by P M package_to_schema all schema_items schema_items_are
        (variable_given P M package_to_schema all (the_text 0) 0 (text_value (package_name k)) (forms.alone types.Str 0) refl, tt) tt

  -- ---- of a class

  module _ (i : ℕ) where
    abbrev class_plain : List Plain
    class_plain =
        Plain.text (class_name i) ∷ Plain.object (class_number seed i) ∷ Plain.object (package_number seed (i / 100)) ∷ Plain.nothing ∷ Plain.term (schema_term (i / 100)) ∷ []

    abbrev class_values : TermValues
    class_values = map value_told class_plain

    abbrev pub class_scope : Scope
    class_scope = scope_of (map datum_told class_plain)

    abbrev class_with : Option TermValue → TermValues
    class_with x =
        Some (text_value (class_name i)) ∷ Some (source_value (class_number seed i)) ∷ Some (source_value (package_number seed (i / 100))) ∷ x
        ∷ Some (of.Term (schema_term (i / 100))) ∷ []

    -- the values of all variables
    abbrev pub class_all : TermValues
    class_all = class_with (Some (of.Term (table_term i)))

    class_round : (b : TermValues) → value_of b 4 ≡ Some (of.Term (schema_term (i / 100))) → value_of b 0 ≡ Some (text_value (class_name i))
        → with_terms P M class_to_table table_items class_scope class_values b ≡ class_all
    class_round b g h =
        ap (λ (o : Option ℕ). class_with (option_map (keyed 2) (all_given (value_of b 4 ∷ given_by P M (known_with class_scope b) (the_text 0) o ∷ [])))) (forms.alone types.Str 0)
        ∙ ap (λ (x : Option TermValue). class_with (option_map (keyed 2) (all_given (x ∷ value_of b 0 ∷ [])))) g
        ∙ ap (λ (x : Option TermValue). class_with (option_map (keyed 2) (all_given (Some (of.Term (schema_term (i / 100))) ∷ x ∷ [])))) h

    pub class_known : entry_known P M class_to_table (class_entry seed i).values ≡ known_with class_scope class_all
    class_known =
        ap (λ (its : List TargetItem). known_by P M class_to_table its class_values (entry_scope P M class_to_table class_values)) table_items_are
        ∙ ap (λ ds. known_by P M class_to_table table_items class_values (scope_within P M class_to_table (scope_of ds) 1)) (data_told class_plain)
        ∙ ap (known_with class_scope)
        (found_within P M class_to_table table_items class_scope class_values class_all (class_round class_values refl refl) (class_round class_all refl refl) 4)

    pub class_made : made_values P M class_to_table (class_entry seed i).values ≡ (class_entry seed i).made
    class_made = ap (λ (x : Known). others_in class_to_table class_values x.values) class_known

    pub class_met : is_unmet P M class_to_table (entry_known P M class_to_table (class_entry seed i).values) ≡ false
    unfolding AreFilled AreKept AreGiven
    class_met =
        let all : Known = known_with class_scope class_all in
        ap (is_unmet P M class_to_table) class_known
        ∙ met_by P M class_to_table all table_items table_items_are
        (refl, (variable_given P M class_to_table all (the_text 0) 0 (text_value (class_name i)) (forms.alone types.Str 0) refl, tt)) (
          arguments_given P M class_to_table all (the_object 1 source 2 ∷ the_object 3 target 2 ∷ text [] ∷ []) (
            variable_given P M class_to_table all (the_object 1 source 2) 1 (source_value (class_number seed i)) (forms.alone (the_object 1 source 2).ty 1) refl,
            (variable_given P M class_to_table all (the_object 3 target 2) 3 (of.Term (table_term i)) (forms.alone (the_object 3 target 2).ty 3) refl, (text_given P M class_to_table all [], tt)),
          ),
          tt,
        )

    -- ---- of the columns of its table

    abbrev columns_plain : List Plain
    columns_plain = Plain.object (class_number seed i) ∷ Plain.term (table_term i) ∷ Plain.text [] ∷ []

    -- the values of all variables
    abbrev pub columns_all : TermValues
    columns_all = map value_told columns_plain

    abbrev pub columns_scope : Scope
    columns_scope = scope_of (map datum_told columns_plain)

    pub columns_known : entry_known P M attr_to_column (columns_entry seed i).values ≡ known_with columns_scope columns_all
    columns_known =
        ap (λ (its : List TargetItem). known_by P M attr_to_column its columns_all (entry_scope P M attr_to_column columns_all)) columns_items_are
        ∙ ap (λ ds. known_by P M attr_to_column [] columns_all (scope_within P M attr_to_column (scope_of ds) 3)) (data_told columns_plain)
        ∙ ap (known_with columns_scope) (found_within P M attr_to_column [] columns_scope columns_all columns_all refl refl 2)

    pub columns_made : made_values P M attr_to_column (columns_entry seed i).values ≡ (columns_entry seed i).made
    columns_made = ap (λ (x : Known). others_in attr_to_column columns_all x.values) columns_known

    column_call_kept : (relation : ℕ)
        → list_any (is_lacking P M attr_to_column (known_with columns_scope columns_all)) (the_object 0 source 2 ∷ the_object 1 target 2 ∷ the_text 2 ∷ []) ≡ false
    unfolding AreGiven
    column_call_kept relation =
        let all : Known = known_with columns_scope columns_all in
        arguments_given P M attr_to_column all (the_object 0 source 2 ∷ the_object 1 target 2 ∷ the_text 2 ∷ []) (
          variable_given P M attr_to_column all (the_object 0 source 2) 0 (source_value (class_number seed i)) (forms.alone (the_object 0 source 2).ty 0) refl,
          (
            variable_given P M attr_to_column all (the_object 1 target 2) 1 (of.Term (table_term i)) (forms.alone (the_object 1 target 2).ty 1) refl,
            (variable_given P M attr_to_column all (the_text 2) 2 (text_value []) (forms.alone types.Str 2) refl, tt),
          ),
        )

    pub columns_met : is_unmet P M attr_to_column (entry_known P M attr_to_column (columns_entry seed i).values) ≡ false
    unfolding AreFilled AreKept
    columns_met =
        ap (is_unmet P M attr_to_column) columns_known
        ∙ met_by P M attr_to_column (known_with columns_scope columns_all) [] columns_items_are tt (column_call_kept 3, (column_call_kept 4, (column_call_kept 5, tt)))

    -- ---- of an attribute

    module _ (j : ℕ) where
      abbrev attribute_plain : List Plain
      attribute_plain =
          Plain.text (attribute_name j) ∷ Plain.text (attribute_prim seed i j) ∷ Plain.nothing ∷ Plain.object (class_number seed i) ∷ Plain.object (attribute_number seed i j)
          ∷ Plain.term (table_term i) ∷ Plain.nothing ∷ Plain.text [] ∷ []

      abbrev attribute_values : TermValues
      attribute_values = map value_told attribute_plain

      -- before the equation is asked
      abbrev attribute_begin : Scope
      attribute_begin = scope_of (map datum_told attribute_plain)

      abbrev scope_with : Out → Scope
      scope_with x =
          outs.One (Val 0 (values.Str (attribute_name j))) ∷ outs.One (Val 0 (values.Str (attribute_prim seed i j))) ∷ x ∷ outs.One (Obj 0 (record { 0 = class_number seed i }))
          ∷ outs.One (Obj 0 (record { 0 = attribute_number seed i j })) ∷ outs.Invalid ∷ outs.Invalid ∷ outs.One (Val 0 (values.Str [])) ∷ []

      abbrev pub attribute_scope : Scope
      attribute_scope = scope_with (outs.One (Val 0 (values.Str (attribute_name j))))

      abbrev attribute_with : Option TermValue → TermValues
      attribute_with x =
          Some (text_value (attribute_name j)) ∷ Some (text_value (attribute_prim seed i j)) ∷ Some (text_value (attribute_name j)) ∷ Some (source_value (class_number seed i))
          ∷ Some (source_value (attribute_number seed i j)) ∷ Some (of.Term (table_term i)) ∷ x ∷ Some (text_value []) ∷ []

      -- the values of all variables
      abbrev pub attribute_all : TermValues
      attribute_all = attribute_with (Some (of.Term (column_term i j)))

      abbrev attribute_known_with : Scope → Known
      attribute_known_with scope = known_by P M prim_to_column column_items attribute_values scope

      attribute_round : (b : TermValues) → value_of b 5 ≡ Some (of.Term (table_term i)) → value_of b 2 ≡ Some (text_value (attribute_name j))
          → with_terms P M prim_to_column column_items attribute_scope (attribute_with None) b ≡ attribute_all
      attribute_round b g h =
          ap (λ (o : Option ℕ). attribute_with (option_map (keyed 3) (all_given (value_of b 5 ∷ given_by P M (known_with attribute_scope b) (the_text 2) o ∷ [])))) (forms.alone types.Str 2)
          ∙ ap (λ (x : Option TermValue). attribute_with (option_map (keyed 3) (all_given (x ∷ value_of b 2 ∷ [])))) g
          ∙ ap (λ (x : Option TermValue). attribute_with (option_map (keyed 3) (all_given (Some (of.Term (table_term i)) ∷ x ∷ [])))) h

      pub attribute_known : entry_known P M prim_to_column (attribute_entry seed i j).values ≡ known_with attribute_scope attribute_all
      attribute_known =
          ap (λ (its : List TargetItem). known_by P M prim_to_column its attribute_values (entry_scope P M prim_to_column attribute_values)) column_items_are
          ∙ ap (λ ds. attribute_known_with (scope_within P M prim_to_column (scope_of ds) 1)) (data_told attribute_plain)
          ∙ ap (λ x. attribute_known_with (scope_with x)) (forms.prefixed_value P M 7 0 attribute_begin refl)
          ∙ ap (known_with attribute_scope)
          (found_within P M prim_to_column column_items attribute_scope (attribute_with None) attribute_all (attribute_round (attribute_with None) refl refl)
          (attribute_round attribute_all refl refl) 7)

      pub attribute_made : made_values P M prim_to_column (attribute_entry seed i j).values ≡ (attribute_entry seed i j).made
      attribute_made = ap (λ (x : Known). others_in prim_to_column attribute_values x.values) attribute_known

      pub attribute_met : is_unmet P M prim_to_column (entry_known P M prim_to_column (attribute_entry seed i j).values) ≡ false
      unfolding AreFilled AreKept
      attribute_met =
          let all : Known = known_with attribute_scope attribute_all in
          ap (is_unmet P M prim_to_column) attribute_known
          ∙ met_by P M prim_to_column all column_items column_items_are (
            refl,
            (
              variable_given P M prim_to_column all (the_text 2) 2 (text_value (attribute_name j)) (forms.alone types.Str 2) refl,
              (variable_given P M prim_to_column all (the_text 1) 1 (text_value (attribute_prim seed i j)) (forms.alone types.Str 1) refl, tt),
            ),
          )
          (ap (λ (x : Out). is_none (datum_of x)) (forms.prefixed_value P M 7 0 attribute_scope refl), tt)
