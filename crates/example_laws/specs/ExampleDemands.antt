-- What the entries of the example demand: that a schema, a table and a column have their names, that a table is in its schema, a column in its
-- table, and that a column has its type.
use Rattle.std.specs.Prelude.{ℕ, ◌<◌, ◌/◌}
use Rattle.repair_semantics.specs.declared.term.Term.{Term}
use Rattle.repair_semantics.specs.declared.term.TermValue.{TermValue}
use Rattle.repair_semantics.specs.declared.term.TermValue.TheVariants as of
use Rattle.repair_semantics.specs.declared.demand.Demand.{Demand}
use Rattle.example_models.specs.Source.{package_name, class_name, attribute_name, attribute_prim, package_count, attribute_count}
use Rattle.example_laws.specs.ExampleEntries.{text_value, schema_term, table_term, column_term}

-- an entry, by its number, demands that an object has the value at the property
abbrev pub demand : ℕ → Term → ℕ → TermValue → Demand
demand entry owner p value = record { entry = entry; owner = owner; prop = record { 0 = p }; value = value }

-- the only demands that there are
pub data IsExampleDemand (n seed : ℕ) : Demand → Type 0 where
  schema_name : (entry k : ℕ) → k < package_count n → IsExampleDemand n seed (demand entry (schema_term k) 0 (text_value (package_name k)))
  table_schema : (entry i : ℕ) → i < n → IsExampleDemand n seed (demand entry (table_term i) 2 (of.Term (schema_term (i / 100))))
  table_name : (entry i : ℕ) → i < n → IsExampleDemand n seed (demand entry (table_term i) 0 (text_value (class_name i)))
  column_table : (entry i j : ℕ) → i < n → j < attribute_count seed i → IsExampleDemand n seed (demand entry (table_term i) 5 (of.Term (column_term i j)))
  column_name : (entry i j : ℕ) → i < n → j < attribute_count seed i → IsExampleDemand n seed (demand entry (column_term i j) 0 (text_value (attribute_name j)))
  column_type : (entry i j : ℕ) → i < n → j < attribute_count seed i → IsExampleDemand n seed (demand entry (column_term i j) 7 (text_value (attribute_prim seed i j)))

-- the only objects of which they speak
pub data IsExampleTerm (n seed : ℕ) : Term → Type 0 where
  of_schema : (k : ℕ) → k < package_count n → IsExampleTerm n seed (schema_term k)
  of_table : (i : ℕ) → i < n → IsExampleTerm n seed (table_term i)
  of_column : (i j : ℕ) → i < n → j < attribute_count seed i → IsExampleTerm n seed (column_term i j)
