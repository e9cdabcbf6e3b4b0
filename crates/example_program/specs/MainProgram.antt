-- The example's transformation from classes to tables, as it stands in `examples/classes_to_tables/cls2rdb.qvtr`, with its names resolved, towards the
-- tables. Classes and properties go by their numbers in Cls and Rdb: of Cls, Package is 1, Class 2, Attr 3; of Rdb, Schema is 1, Table 2, Column 3. The
-- variables of a relation go by their order in its text, relations by theirs.
use Rattle.std.specs.Prelude.{ℕ, true, false, List, [], ◌∷◌, codes}
use Rattle.qv_syntax.specs.declared.program.Program.{Program}
use Rattle.qv_syntax.specs.declared.program.Key.{Key}
use Rattle.qv_syntax.specs.declared.program.Rel.{Rel}
use Rattle.qv_syntax.specs.declared.program.Tmpl.{Tmpl}
use Rattle.qv_syntax.specs.declared.program.Conj.{Conj}
use Rattle.qv_syntax.specs.declared.program.Conj.TheVariants as conjuncts
use Rattle.qv_syntax.specs.declared.query.ModelSlot.{ModelSlot}
use Rattle.example_program.specs.Words.{source, target, text_variable, object_variable, text, the_text, the_object, prefixed, value_item, object_item, template, source_domain, target_domain, primitive_domain, key_of}

-- top relation PackageToSchema {
--   pn : String;
--   checkonly domain uml p : Package {name = pn};
--   enforce domain rdb s : Schema {name = pn};
-- }
abbrev pub package_to_schema : Rel
package_to_schema = record {
  name = codes "PackageToSchema";
  top = true;
  in_direction = true;
  stratum = 0;
  vars = text_variable (codes "pn") ∷ object_variable (codes "p") source 1 ∷ object_variable (codes "s") target 1 ∷ [];
  universal = 0 ∷ 1 ∷ [];
  existential = 2 ∷ [];
  domains = source_domain 1 (template 1 1 (value_item 0 (the_text 0) ∷ [])) ∷ target_domain 2 (template 2 1 (value_item 0 (the_text 0) ∷ [])) ∷ [];
  whens = [];
  wheres = [];
}

-- c : Class {owner = p : Package {}, kind = 'persistent', name = cn}
abbrev pub class_pattern : Tmpl
class_pattern = template 1 2 (object_item 2 (template 2 1 []) ∷ value_item 3 (text (codes "persistent")) ∷ value_item 0 (the_text 0) ∷ [])

-- t : Table {schema = s : Schema {}, name = cn}
abbrev pub table_pattern : Tmpl
table_pattern = template 3 2 (object_item 2 (template 4 1 []) ∷ value_item 0 (the_text 0) ∷ [])

-- top relation ClassToTable {
--   cn : String;
--   checkonly domain uml c : Class {owner = p : Package {}, kind = 'persistent', name = cn};
--   enforce domain rdb t : Table {schema = s : Schema {}, name = cn};
--   when { PackageToSchema(p, s); }
--   where { AttrToColumn(c, t, ''); }
-- }
abbrev pub class_to_table : Rel
class_to_table = record {
  name = codes "ClassToTable";
  top = true;
  in_direction = true;
  stratum = 1;
  vars = text_variable (codes "cn") ∷ object_variable (codes "c") source 2 ∷ object_variable (codes "p") source 1 ∷ object_variable (codes "t") target 2
      ∷ object_variable (codes "s") target 1 ∷ [];
  universal = 0 ∷ 1 ∷ 2 ∷ 4 ∷ [];
  existential = 3 ∷ [];
  domains = source_domain 1 class_pattern ∷ target_domain 3 table_pattern ∷ [];
  whens = conjuncts.Call 0 (the_object 2 source 1 ∷ the_object 4 target 1 ∷ []) ∷ [];
  wheres = conjuncts.Call 2 (the_object 1 source 2 ∷ the_object 3 target 2 ∷ text [] ∷ []) ∷ [];
}

-- a call with a class, a table and a prefix of the names of its columns
abbrev pub column_call : ℕ → ℕ → ℕ → ℕ → Conj
column_call relation class table prefix = conjuncts.Call relation (the_object class source 2 ∷ the_object table target 2 ∷ the_text prefix ∷ [])

-- relation AttrToColumn {
--   checkonly domain uml c : Class {};
--   enforce domain rdb t : Table {};
--   primitive domain prefix : String;
--   where { PrimToColumn(c, t, prefix); NestedToColumn(c, t, prefix); SuperToColumn(c, t, prefix); }
-- }
abbrev pub attr_to_column : Rel
attr_to_column = record {
  name = codes "AttrToColumn";
  top = false;
  in_direction = true;
  stratum = 0;
  vars = object_variable (codes "c") source 2 ∷ object_variable (codes "t") target 2 ∷ text_variable (codes "prefix") ∷ [];
  universal = 0 ∷ 2 ∷ [];
  existential = 1 ∷ [];
  domains = source_domain 0 (template 0 2 []) ∷ target_domain 1 (template 1 2 []) ∷ primitive_domain 2 ∷ [];
  whens = [];
  wheres = column_call 3 0 1 2 ∷ column_call 4 0 1 2 ∷ column_call 5 0 1 2 ∷ [];
}

-- `variable : class {property = part}`
abbrev pub with_part : ℕ → ℕ → ℕ → Tmpl → Tmpl
with_part variable class prop part = template variable class (object_item prop part ∷ [])

-- a : Attr {name = an, prim = pt}
abbrev pub prim_attr : Tmpl
prim_attr = template 4 3 (value_item 0 (the_text 0) ∷ value_item 9 (the_text 1) ∷ [])

-- k : Column {name = coln, type = pt}
abbrev pub prim_column : Tmpl
prim_column = template 6 3 (value_item 0 (the_text 2) ∷ value_item 7 (the_text 1) ∷ [])

-- relation PrimToColumn {
--   an, pt, coln : String;
--   checkonly domain uml c : Class {attrs = a : Attr {name = an, prim = pt}};
--   enforce domain rdb t : Table {columns = k : Column {name = coln, type = pt}};
--   primitive domain prefix : String;
--   where { coln = if prefix = '' then an else prefix + '_' + an endif; }
-- }
abbrev pub prim_to_column : Rel
prim_to_column = record {
  name = codes "PrimToColumn";
  top = false;
  in_direction = true;
  stratum = 0;
  vars = text_variable (codes "an") ∷ text_variable (codes "pt") ∷ text_variable (codes "coln") ∷ object_variable (codes "c") source 2
      ∷ object_variable (codes "a") source 3 ∷ object_variable (codes "t") target 2 ∷ object_variable (codes "k") target 3 ∷ text_variable (codes "prefix") ∷ [];
  universal = 0 ∷ 1 ∷ 3 ∷ 4 ∷ 7 ∷ [];
  existential = 2 ∷ 5 ∷ 6 ∷ [];
  domains = source_domain 3 (with_part 3 2 7 prim_attr) ∷ target_domain 5 (with_part 5 2 5 prim_column) ∷ primitive_domain 7 ∷ [];
  whens = [];
  wheres = conjuncts.Equation 2 (prefixed 7 0) ∷ [];
}

-- a : Attr {name = an, ref = d : Class {}}
abbrev pub nested_attr : Tmpl
nested_attr = template 2 3 (value_item 0 (the_text 0) ∷ object_item 10 (template 3 2 []) ∷ [])

-- relation NestedToColumn {
--   an : String;
--   checkonly domain uml c : Class {attrs = a : Attr {name = an, ref = d : Class {}}};
--   enforce domain rdb t : Table {};
--   primitive domain prefix : String;
--   where { AttrToColumn(d, t, if prefix = '' then an else prefix + '_' + an endif); }
-- }
abbrev pub nested_to_column : Rel
nested_to_column = record {
  name = codes "NestedToColumn";
  top = false;
  in_direction = true;
  stratum = 0;
  vars = text_variable (codes "an") ∷ object_variable (codes "c") source 2 ∷ object_variable (codes "a") source 3 ∷ object_variable (codes "d") source 2
      ∷ object_variable (codes "t") target 2 ∷ text_variable (codes "prefix") ∷ [];
  universal = 0 ∷ 1 ∷ 2 ∷ 3 ∷ 5 ∷ [];
  existential = 4 ∷ [];
  domains = source_domain 1 (with_part 1 2 7 nested_attr) ∷ target_domain 4 (template 4 2 []) ∷ primitive_domain 5 ∷ [];
  whens = [];
  wheres = conjuncts.Call 2 (the_object 3 source 2 ∷ the_object 4 target 2 ∷ prefixed 5 0 ∷ []) ∷ [];
}

-- relation SuperToColumn {
--   checkonly domain uml c : Class {parent = d : Class {}};
--   enforce domain rdb t : Table {};
--   primitive domain prefix : String;
--   where { AttrToColumn(d, t, prefix); }
-- }
abbrev pub super_to_column : Rel
super_to_column = record {
  name = codes "SuperToColumn";
  top = false;
  in_direction = true;
  stratum = 0;
  vars = object_variable (codes "c") source 2 ∷ object_variable (codes "d") source 2 ∷ object_variable (codes "t") target 2 ∷ text_variable (codes "prefix") ∷ [];
  universal = 0 ∷ 1 ∷ 3 ∷ [];
  existential = 2 ∷ [];
  domains = source_domain 0 (with_part 0 2 4 (template 1 2 [])) ∷ target_domain 2 (template 2 2 []) ∷ primitive_domain 3 ∷ [];
  whens = [];
  wheres = column_call 2 1 2 3 ∷ [];
}

abbrev pub main_models : List ModelSlot
main_models = record { name = codes "uml"; meta = source } ∷ record { name = codes "rdb"; meta = target } ∷ []

-- key Rdb::Schema {name}; key Rdb::Table {schema, name}; key Rdb::Column {table, name};
abbrev pub main_keys : List Key
main_keys = key_of 1 (0 ∷ []) ∷ key_of 2 (2 ∷ 0 ∷ []) ∷ key_of 3 (6 ∷ 0 ∷ []) ∷ []

-- the top relations come first
abbrev pub main_relations : List Rel
main_relations = package_to_schema ∷ class_to_table ∷ attr_to_column ∷ prim_to_column ∷ nested_to_column ∷ super_to_column ∷ []

-- transformation Cls2Rdb (uml : Cls, rdb : Rdb)
abbrev pub main_program_data : Program
main_program_data = record { name = codes "Cls2Rdb"; models = main_models; target = target; keys = main_keys; rels = main_relations; queries = [] }
