-- What the entries of the example demand.
use Rattle.std.proofs.Common.{◌≡◌, ◌/◌, ℕ, suc, Bool, List, [], ◌∷◌, Some, refl, ap, ◌∙◌, subst, arith, inl, inr}
use Rattle.std.specs.Prelude.{Option, Contains, ◌⊎◌, if◌then◌else◌}
use Rattle.std.specs.List.{AllByRecursion, cons_option}
use Rattle.std.specs.Option.{option_and_then}
use Rattle.std.proofs.lemmas.List.Elements.{Contains-append_cases}
use Rattle.object_tables.specs.Models.{ModelData}
use Rattle.qv_syntax.specs.declared.program.Program.{Program}
use Rattle.qv_syntax.specs.declared.ty.Ty.TheVariants as types
use Rattle.mof_metamodel.proofs.Facts.{nothing_in}
use Rattle.template_match.proofs.ListLaws.{all_at, contains_later}
use Rattle.repair_semantics.specs.declared.term.Term.{Term}
use Rattle.repair_semantics.specs.declared.term.TermValue.{TermValue}
use Rattle.repair_semantics.specs.declared.term.TermValue.TheVariants as of
use Rattle.repair_semantics.specs.declared.entry.Entry.{Entry}
use Rattle.repair_semantics.specs.declared.demand.Demand.{Demand}
use Rattle.repair_semantics.specs.Terms.{term_in}
use Rattle.repair_semantics.specs.EntryValues.{value_of, Known, given_by}
use Rattle.repair_semantics.specs.TargetItems.{TargetItem, target_items}
use Rattle.repair_semantics.specs.Making.{content_value, entry_known}
use Rattle.repair_semantics.specs.Demands.{demand_by, item_demand, item_demands, entry_demands, demands_from, demands_of}
use Rattle.repair_laws.proofs.EntryTerms.{term_itself}
use Rattle.example_models.specs.Source.{package_name, class_name, attribute_name, attribute_prim}
use Rattle.example_program.specs.Words.{the_text}
use Rattle.example_program.specs.MainProgram.{main_program_data, package_to_schema, class_to_table, attr_to_column, prim_to_column}
use Rattle.example_laws.specs.ExampleModels.{first_models}
use Rattle.example_laws.specs.ExampleEntries.{text_value, schema_term, table_term, column_term, package_entry, class_entry, columns_entry, attribute_entry, IsExampleEntry}
use Rattle.example_laws.specs.ExampleDemands.{demand, IsExampleDemand}
use Rattle.example_laws.proofs.ValueLaws as forms
use Rattle.example_laws.proofs.ItemsLaws.{valued_item, nested_item, schema_items_are, table_items_are, columns_items_are, column_items_are}
use Rattle.example_laws.proofs.KnownLaws.{known_with, package_scope, package_all, package_known, package_met, class_scope, class_all, class_known, class_met, columns_scope, columns_all, columns_met, attribute_scope, attribute_all, attribute_known, attribute_met}

-- ---- what items demand

module _ (program : Program) (models : List ModelData) (k : Known) (number : ℕ) where
  demanded : (item : TargetItem) (t : Term) (x : TermValue) → value_of k.values item.owner ≡ Some (of.Term t) → content_value program models k item.content ≡ Some x
      → item_demand program models k number item ≡ Some (record { entry = number; owner = t; prop = item.prop; value = x })
  demanded item t x owner content =
      ap (λ (o : Option Term). demand_by number item o (content_value program models k item.content)) (ap (option_and_then term_in) owner ∙ term_itself t)
      ∙ ap (λ (o : Option TermValue). demand_by number item (Some t) o) content

  -- a text, and an object
  valued : (owner prop v : ℕ) (t : Term) (x : TermValue) → value_of k.values owner ≡ Some (of.Term t) → value_of k.values v ≡ Some x
      → item_demand program models k number (valued_item owner prop v) ≡ Some (demand number t prop x)
  valued owner prop v t x o h = demanded (valued_item owner prop v) t x o (ap (given_by program models k (the_text v)) (forms.alone types.Str v) ∙ h)

  nested : (owner prop v : ℕ) (t : Term) (x : TermValue) → value_of k.values owner ≡ Some (of.Term t) → value_of k.values v ≡ Some x
      → item_demand program models k number (nested_item owner prop v) ≡ Some (demand number t prop x)
  nested owner prop v t x o h = demanded (nested_item owner prop v) t x o h

  one_more : (item : TargetItem) (items : List TargetItem) (d : Demand) (ds : List Demand) → item_demand program models k number item ≡ Some d
      → item_demands program models k number items ≡ ds → item_demands program models k number (item ∷ items) ≡ d ∷ ds
  one_more item items d ds h rest = ap (λ (o : Option Demand). cons_option o (item_demands program models k number items)) h ∙ ap (λ (l : List Demand). d ∷ l) rest

-- ---- what entries demand

module _ (n seed : ℕ) where
  abbrev P : Program
  P = main_program_data

  abbrev M : List ModelData
  M = first_models n seed

  abbrev unless : Bool → List Demand → List Demand
  unless b ds = if b then [] else ds

  package_demands : (k number : ℕ) → entry_demands P M number (package_entry seed k) ≡ demand number (schema_term k) 0 (text_value (package_name k)) ∷ []
  package_demands k number =
      let all : Known = known_with (package_scope n seed k) (package_all n seed k) in
      ap (λ (b : Bool). unless b (item_demands P M (entry_known P M package_to_schema (package_entry seed k).values) number (target_items P package_to_schema))) (package_met n seed k)
      ∙ ap (λ (x : Known). item_demands P M x number (target_items P package_to_schema)) (package_known n seed k)
      ∙ ap (λ (its : List TargetItem). item_demands P M all number its) schema_items_are
      ∙ one_more P M all number (valued_item 2 0 0) [] (demand number (schema_term k) 0 (text_value (package_name k))) []
      (valued P M all number 2 0 0 (schema_term k) (text_value (package_name k)) refl refl) refl

  class_demands : (i number : ℕ)
      → entry_demands P M number (class_entry seed i) ≡ demand number (table_term i) 2 (of.Term (schema_term (i / 100))) ∷ demand number (table_term i) 0 (text_value (class_name i)) ∷ []
  class_demands i number =
      let all : Known = known_with (class_scope n seed i) (class_all n seed i) in
      ap (λ (b : Bool). unless b (item_demands P M (entry_known P M class_to_table (class_entry seed i).values) number (target_items P class_to_table))) (class_met n seed i)
      ∙ ap (λ (x : Known). item_demands P M x number (target_items P class_to_table)) (class_known n seed i)
      ∙ ap (λ (its : List TargetItem). item_demands P M all number its) table_items_are
      ∙ one_more P M all number (nested_item 3 2 4) (valued_item 3 0 0 ∷ []) (demand number (table_term i) 2 (of.Term (schema_term (i / 100))))
      (demand number (table_term i) 0 (text_value (class_name i)) ∷ []) (nested P M all number 3 2 4 (table_term i) (of.Term (schema_term (i / 100))) refl refl)
      (one_more P M all number (valued_item 3 0 0) [] (demand number (table_term i) 0 (text_value (class_name i))) []
      (valued P M all number 3 0 0 (table_term i) (text_value (class_name i)) refl refl) refl)

  columns_demands : (i number : ℕ) → entry_demands P M number (columns_entry seed i) ≡ []
  columns_demands i number =
      let all : Known = known_with (columns_scope n seed i) (columns_all n seed i) in
      ap (λ (b : Bool). unless b (item_demands P M (entry_known P M attr_to_column (columns_entry seed i).values) number (target_items P attr_to_column))) (columns_met n seed i)
      ∙ ap (λ (its : List TargetItem). item_demands P M (entry_known P M attr_to_column (columns_entry seed i).values) number its) columns_items_are

  attribute_demands : (i j number : ℕ) → entry_demands P M number (attribute_entry seed i j)
      ≡ demand number (table_term i) 5 (of.Term (column_term i j)) ∷ demand number (column_term i j) 0 (text_value (attribute_name j))
      ∷ demand number (column_term i j) 7 (text_value (attribute_prim seed i j)) ∷ []
  attribute_demands i j number =
      let all : Known = known_with (attribute_scope n seed i j) (attribute_all n seed i j) in
      ap (λ (b : Bool). unless b (item_demands P M (entry_known P M prim_to_column (attribute_entry seed i j).values) number (target_items P prim_to_column))) (attribute_met n seed i j)
      ∙ ap (λ (x : Known). item_demands P M x number (target_items P prim_to_column)) (attribute_known n seed i j)
      ∙ ap (λ (its : List TargetItem). item_demands P M all number its) column_items_are
      ∙ one_more P M all number (nested_item 5 5 6) (valued_item 6 0 2 ∷ valued_item 6 7 1 ∷ []) (demand number (table_term i) 5 (of.Term (column_term i j)))
      (demand number (column_term i j) 0 (text_value (attribute_name j)) ∷ demand number (column_term i j) 7 (text_value (attribute_prim seed i j)) ∷ [])
      (nested P M all number 5 5 6 (table_term i) (of.Term (column_term i j)) refl refl)
      (one_more P M all number (valued_item 6 0 2) (valued_item 6 7 1 ∷ []) (demand number (column_term i j) 0 (text_value (attribute_name j)))
      (demand number (column_term i j) 7 (text_value (attribute_prim seed i j)) ∷ [])
      (valued P M all number 6 0 2 (column_term i j) (text_value (attribute_name j)) refl refl)
      (one_more P M all number (valued_item 6 7 1) [] (demand number (column_term i j) 7 (text_value (attribute_prim seed i j))) []
      (valued P M all number 6 7 1 (column_term i j) (text_value (attribute_prim seed i j)) refl refl) refl))

  -- ---- nothing else is demanded

  listed : (ds es : List Demand) (d : Demand) → ds ≡ es → AllByRecursion (IsExampleDemand n seed) es → Contains ds d → IsExampleDemand n seed d
  listed ds es d same all c = all_at (IsExampleDemand n seed) es d all (subst (λ (l : List Demand). Contains l d) same c)

  from_entry : (e : Entry) → IsExampleEntry n seed e → (number : ℕ) (d : Demand) → Contains (entry_demands P M number e) d → IsExampleDemand n seed d
  from_entry _ (IsExampleEntry.of_package k below) number d c =
      listed (entry_demands P M number (package_entry seed k)) (demand number (schema_term k) 0 (text_value (package_name k)) ∷ []) d (package_demands k number)
      (IsExampleDemand.schema_name number k below, tt) c
  from_entry _ (IsExampleEntry.of_class i below) number d c =
      listed (entry_demands P M number (class_entry seed i)) (demand number (table_term i) 2 (of.Term (schema_term (i / 100))) ∷ demand number (table_term i) 0 (text_value (class_name i)) ∷ []) d
      (class_demands i number) (IsExampleDemand.table_schema number i below, (IsExampleDemand.table_name number i below, tt)) c
  from_entry _ (IsExampleEntry.of_columns i below) number d c = listed (entry_demands P M number (columns_entry seed i)) [] d (columns_demands i number) tt c
  from_entry _ (IsExampleEntry.of_attribute i j below within) number d c =
      listed (entry_demands P M number (attribute_entry seed i j))
      (demand number (table_term i) 5 (of.Term (column_term i j)) ∷ demand number (column_term i j) 0 (text_value (attribute_name j))
      ∷ demand number (column_term i j) 7 (text_value (attribute_prim seed i j)) ∷ []) d
      (attribute_demands i j number)
      (IsExampleDemand.column_table number i j below within, (IsExampleDemand.column_name number i j below within, (IsExampleDemand.column_type number i j below within, tt))) c

  from_entries : (es : List Entry) (before : ℕ) → ((e : Entry) → Contains es e → IsExampleEntry n seed e) → (d : Demand) → Contains (demands_from P M before es) d → IsExampleDemand n seed d
  from_entries [] before only d c = absurd (nothing_in d c)
  from_entries (e ∷ es) before only d c = by (from_entries es (suc before) (λ x there. only x (contains_later x e es there)) d) (Contains-append_cases (entry_demands P M before e) (demands_from P M (suc before) es) d c)
    where
      by : (Contains (demands_from P M (suc before) es) d → IsExampleDemand n seed d) → Contains (entry_demands P M before e) d ⊎ Contains (demands_from P M (suc before) es) d
          → IsExampleDemand n seed d
      by rest (inl here) = from_entry e (only e (0, omega arith, refl)) before d here
      by rest (inr there) = rest there

  -- where entries are those of the example, so are their demands
  pub demands_are_example : (es : List Entry) → ((e : Entry) → Contains es e → IsExampleEntry n seed e) → (d : Demand) → Contains (demands_of main_program_data (first_models n seed) es) d
      → IsExampleDemand n seed d
  demands_are_example es only d c = from_entries es 0 only d c
