-- The objects of which the example's demands speak, and that there are no more of them than objects in its source.
use Rattle.std.proofs.Common.{◌≡◌, ◌≤◌, ◌+◌, ◌/◌, ℕ, zero, suc, List, ◌++◌, map, length, None, Some, refl, sym, ap, ◌∙◌, subst, arith}
use Rattle.std.specs.Prelude.{Contains, sum_by}
use Rattle.std.specs.List.{flat_map, range_with_len}
use Rattle.std.proofs.lemmas.Option.{none-some, same_Some}
use Rattle.std.proofs.lemmas.List.{length-append}
use Rattle.std.proofs.lemmas.List.FromFn.{length-map-range_with_len}
use Rattle.std.proofs.lemmas.List.Sums.{sum_by-cons}
use Rattle.std.proofs.lemmas.List.Elements.{Contains-append_left, Contains-append_right}
use Rattle.mof_metamodel.proofs.Facts.{contains_map}
use Rattle.mof_metamodel.proofs.PropLemmas.{to_flat_map}
use Rattle.object_tables.specs.declared.value.Value.TheVariants as values
use Rattle.qvtr_semantics.specs.declared.datum.Datum.TheVariants.{Val}
use Rattle.repair_semantics.specs.declared.term.Term.{Term}
use Rattle.repair_semantics.specs.declared.term.TermValue.TheVariants as of
use Rattle.repair_semantics.specs.declared.demand.Demand.{Demand}
use Rattle.repair_semantics.specs.Terms.{term_part, term_in}
use Rattle.repair_semantics.specs.Demands.{terms_in, demanded_terms}
use Rattle.repair_laws.specs.DemandedKeys.{IsInDemands}
use Rattle.repair_laws.proofs.DemandedTerms.{demanded_in}
use Rattle.repair_laws.proofs.EntryTerms.{out_datum, term_itself}
use Rattle.repair_laws.proofs.TermOrder.{once_ascending}
use Rattle.example_models.specs.declared.limits.TheConstants.{MAX_SOURCE_CLASSES}
use Rattle.example_models.specs.Source.{package_count, attribute_count, source_count}
use Rattle.example_models.proofs.SizeLaws.{few_attributes}
use Rattle.example_laws.specs.ExampleEntries.{text_value, schema_term, table_term, column_term}
use Rattle.example_laws.specs.ExampleDemands.{IsExampleDemand, IsExampleTerm}
use Rattle.example_laws.proofs.Counting.{in_range, no_more}

no_term : (s : List ℕ) → term_in (text_value s) ≡ None
no_term s = ap term_part (out_datum (Val 0 (values.Str s)))

module _ (n seed : ℕ) where
  -- ---- which they are

  owner_is : (d : Demand) → IsExampleDemand n seed d → IsExampleTerm n seed d.owner
  owner_is _ (IsExampleDemand.schema_name entry k below) = IsExampleTerm.of_schema k below
  owner_is _ (IsExampleDemand.table_schema entry i below) = IsExampleTerm.of_table i below
  owner_is _ (IsExampleDemand.table_name entry i below) = IsExampleTerm.of_table i below
  owner_is _ (IsExampleDemand.column_table entry i j below within) = IsExampleTerm.of_table i below
  owner_is _ (IsExampleDemand.column_name entry i j below within) = IsExampleTerm.of_column i j below within
  owner_is _ (IsExampleDemand.column_type entry i j below within) = IsExampleTerm.of_column i j below within

  no_text : (s : List ℕ) (t : Term) → term_in (text_value s) ≡ Some t → IsExampleTerm n seed t
  no_text s t is = absurd (none-some t (sym (no_term s) ∙ is))

  its_value : (u t : Term) → IsExampleTerm n seed u → term_in (of.Term u) ≡ Some t → IsExampleTerm n seed t
  its_value u t example is = subst (IsExampleTerm n seed) (same_Some u t (sym (term_itself u) ∙ is)) example

  value_is : (d : Demand) → IsExampleDemand n seed d → (t : Term) → term_in d.value ≡ Some t → IsExampleTerm n seed t
  value_is _ (IsExampleDemand.schema_name entry k below) t is = no_text _ t is
  value_is _ (IsExampleDemand.table_schema entry i below) t is = its_value (schema_term (i / 100)) t (IsExampleTerm.of_schema (i / 100) (omega (arith, below))) is
  value_is _ (IsExampleDemand.table_name entry i below) t is = no_text _ t is
  value_is _ (IsExampleDemand.column_table entry i j below within) t is = its_value (column_term i j) t (IsExampleTerm.of_column i j below within) is
  value_is _ (IsExampleDemand.column_name entry i j below within) t is = no_text _ t is
  value_is _ (IsExampleDemand.column_type entry i j below within) t is = no_text _ t is

  module _ (ds : List Demand) (only : (d : Demand) → Contains ds d → IsExampleDemand n seed d) where
    pub terms_are_example : (t : Term) → Contains (demanded_terms ds) t → IsExampleTerm n seed t
    terms_are_example t c = by (demanded_in ds t c)
      where
        by : IsInDemands ds t → IsExampleTerm n seed t
        by (IsInDemands.owner d there is) = subst (IsExampleTerm n seed) is (owner_is d (only d there))
        by (IsInDemands.value d there is) = value_is d (only d there) t is

  -- ---- how many there are

  columns_of : ℕ → List Term
  columns_of i = map (λ j. column_term i j) (range_with_len 0 (attribute_count seed i))

  schemas : List Term
  schemas = map schema_term (range_with_len 0 (package_count n))

  tables : List Term
  tables = map table_term (range_with_len 0 n)

  columns : List Term
  unfolding columns_of
  columns = flat_map columns_of (range_with_len 0 n)

  all_terms : List Term
  unfolding schemas tables columns
  all_terms = schemas ++ (tables ++ columns)

  is_listed : (t : Term) → IsExampleTerm n seed t → Contains all_terms t
  unfolding schemas tables columns columns_of all_terms
  is_listed _ (IsExampleTerm.of_schema k below) =
      Contains-append_left schemas (tables ++ columns) (schema_term k) (contains_map schema_term (range_with_len 0 (package_count n)) k (in_range (package_count n) k below))
  is_listed _ (IsExampleTerm.of_table i below) =
      Contains-append_right schemas (tables ++ columns) (table_term i)
      (Contains-append_left tables columns (table_term i) (contains_map table_term (range_with_len 0 n) i (in_range n i below)))
  is_listed _ (IsExampleTerm.of_column i j below within) =
      Contains-append_right schemas (tables ++ columns) (column_term i j)
      (Contains-append_right tables columns (column_term i j)
      (to_flat_map columns_of (range_with_len 0 n) i (column_term i j) (in_range n i below)
      (contains_map (λ k. column_term i k) (range_with_len 0 (attribute_count seed i)) j (in_range (attribute_count seed i) j within))))

  columns_counted : (i m : ℕ) → length (flat_map columns_of (range_with_len i m)) ≡ sum_by (attribute_count seed) (range_with_len i m)
  unfolding columns_of
  columns_counted i zero = refl
  columns_counted i (suc m) =
      let both = length-append (columns_of i) (flat_map columns_of (range_with_len (i + 1) m)) in
      let one = length-map-range_with_len (λ j. column_term i j) 0 (attribute_count seed i) in
      let rest = columns_counted (i + 1) m in
      let sum = sum_by-cons (attribute_count seed) i (range_with_len (i + 1) m) in
      omega (arith, both, one, rest, sum)

  all_counted : length all_terms ≡ source_count n seed
  unfolding schemas tables columns all_terms
  all_counted =
      let first = length-append schemas (tables ++ columns) in
      let second = length-append tables columns in
      let packages = length-map-range_with_len schema_term 0 (package_count n) in
      let classes = length-map-range_with_len table_term 0 n in
      let attributes = columns_counted 0 n in
      omega (arith, first, second, packages, classes, attributes)

  -- no more than objects in the source, and fewer than a model may have
  pub few_terms : (ds : List Demand) → ((d : Demand) → Contains ds d → IsExampleDemand n seed d) → n ≤ MAX_SOURCE_CLASSES → length (demanded_terms ds) ≤ 160_000
  few_terms ds only few =
      let fewer = no_more (demanded_terms ds) all_terms (once_ascending (flat_map terms_in ds)) (λ t c. is_listed t (terms_are_example ds only t c)) in
      let counted = all_counted in
      let attributes = few_attributes seed n in
      let most : MAX_SOURCE_CLASSES ≡ 50_000 = refl in
      omega (arith, fewer, counted, attributes, few, most)
