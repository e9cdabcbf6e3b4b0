-- The entries of the example, over its source and an empty target: the only ones that there can be (QVT 1.3, sections 7.2 and 7.10.2).
use Rattle.std.specs.Prelude.{ℕ, ◌<◌, ◌+◌, ◌/◌, true, false, List, [], ◌∷◌, None, Some}
use Rattle.object_tables.specs.declared.value.Value.TheVariants as values
use Rattle.qvtr_semantics.specs.declared.datum.Datum.TheVariants.{Obj, Val}
use Rattle.repair_semantics.specs.declared.term.Term.{Term, roll-Term}
use Rattle.repair_semantics.specs.declared.term.TermValue.{TermValue}
use Rattle.repair_semantics.specs.declared.term.TermValue.TheVariants as of
use Rattle.repair_semantics.specs.declared.entry.Entry.{Entry}
use Rattle.example_models.specs.Source.{package_name, class_name, attribute_name, attribute_prim, package_count, attribute_count, package_number, class_number}

-- ---- values: a text, an object of the source, an object of the target

abbrev pub text_value : List ℕ → TermValue
text_value text = of.Val (Val 0 (values.Str text))

abbrev pub source_value : ℕ → TermValue
source_value o = of.Val (Obj 0 (record { 0 = o }))

-- ---- terms: a schema by its name, a table by its schema and its name, a column by its table and its name

abbrev pub schema_term : ℕ → Term
schema_term k = roll-Term (record { class = record { 0 = 1 }; keys = text_value (package_name k) ∷ [] })

abbrev pub table_term : ℕ → Term
table_term i = roll-Term (record { class = record { 0 = 2 }; keys = of.Term (schema_term (i / 100)) ∷ text_value (class_name i) ∷ [] })

abbrev pub column_term : ℕ → ℕ → Term
column_term i j = roll-Term (record { class = record { 0 = 3 }; keys = of.Term (table_term i) ∷ text_value (attribute_name j) ∷ [] })

-- the number of attribute j of class i
abbrev pub attribute_number : ℕ → ℕ → ℕ → ℕ
attribute_number seed i j = class_number seed i + 1 + j

-- ---- entries

-- PackageToSchema with package k: pn, p; it makes s
abbrev pub package_entry : ℕ → ℕ → Entry
package_entry seed k = record {
  rel = 0;
  called = false;
  values = Some (text_value (package_name k)) ∷ Some (source_value (package_number seed k)) ∷ None ∷ [];
  made = None ∷ None ∷ Some (of.Term (schema_term k)) ∷ [];
}

-- ClassToTable with class i: cn, c, p and s; it makes t
abbrev pub class_entry : ℕ → ℕ → Entry
class_entry seed i = record {
  rel = 1;
  called = false;
  values =
      Some (text_value (class_name i)) ∷ Some (source_value (class_number seed i)) ∷ Some (source_value (package_number seed (i / 100))) ∷ None
      ∷ Some (of.Term (schema_term (i / 100))) ∷ [];
  made = None ∷ None ∷ None ∷ Some (of.Term (table_term i)) ∷ None ∷ [];
}

-- AttrToColumn with class i: c, t and the empty prefix
abbrev pub columns_entry : ℕ → ℕ → Entry
columns_entry seed i = record {
  rel = 2;
  called = true;
  values = Some (source_value (class_number seed i)) ∷ Some (of.Term (table_term i)) ∷ Some (text_value []) ∷ [];
  made = None ∷ None ∷ None ∷ [];
}

-- PrimToColumn with attribute j of class i: an, pt, c, a, t and the empty prefix; it makes coln and k
abbrev pub attribute_entry : ℕ → ℕ → ℕ → Entry
attribute_entry seed i j = record {
  rel = 3;
  called = true;
  values =
      Some (text_value (attribute_name j)) ∷ Some (text_value (attribute_prim seed i j)) ∷ None ∷ Some (source_value (class_number seed i))
      ∷ Some (source_value (attribute_number seed i j)) ∷ Some (of.Term (table_term i)) ∷ None ∷ Some (text_value []) ∷ [];
  made = None ∷ None ∷ Some (text_value (attribute_name j)) ∷ None ∷ None ∷ None ∷ Some (of.Term (column_term i j)) ∷ None ∷ [];
}

-- the only entries that there are: those of the packages, classes and attributes of the source
pub data IsExampleEntry (n seed : ℕ) : Entry → Type 0 where
  of_package : (k : ℕ) → k < package_count n → IsExampleEntry n seed (package_entry seed k)
  of_class : (i : ℕ) → i < n → IsExampleEntry n seed (class_entry seed i)
  of_columns : (i : ℕ) → i < n → IsExampleEntry n seed (columns_entry seed i)
  of_attribute : (i j : ℕ) → i < n → j < attribute_count seed i → IsExampleEntry n seed (attribute_entry seed i j)
