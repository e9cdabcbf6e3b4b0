-- Small metamodels, models and programs, with which the definitions are computed: packages with classes, and schemas with tables.
use Rattle.std.specs.Prelude.{ℕ, Bool, true, false, List, [], ◌∷◌, codes, Option, None, Some}
use Rattle.mof_metamodel.specs.declared.desc.MetaDesc.{MetaDesc}
use Rattle.mof_metamodel.specs.declared.desc.PropDesc.{PropDesc}
use Rattle.object_tables.specs.declared.value.Value.TheVariants as values
use Rattle.object_tables.specs.Objects.{Object, Slot}
use Rattle.object_tables.specs.Models.{ModelData}
use Rattle.qv_syntax.specs.declared.program.Program.{Program}
use Rattle.qv_syntax.specs.declared.program.Rel.{Rel}
use Rattle.qv_syntax.specs.declared.program.Var.{Var}
use Rattle.qv_syntax.specs.declared.program.Marker.TheVariants.{Checkonly, Enforce}
use Rattle.qv_syntax.specs.declared.program.Tmpl.{Tmpl, roll-Tmpl}
use Rattle.qv_syntax.specs.declared.program.Item.{Item}
use Rattle.qv_syntax.specs.declared.program.ItemValue.{ItemValue, roll-ItemValue}
use Rattle.qv_syntax.specs.declared.program.ItemValue.TheOpen as items
use Rattle.qv_syntax.specs.declared.program.Conj.TheVariants as conjuncts
use Rattle.qv_syntax.specs.declared.ty.Ty.{Ty}
use Rattle.qv_syntax.specs.declared.ty.Ty.TheVariants as types
use Rattle.qv_syntax.specs.declared.typed.Typed.{Typed}
use Rattle.qv_syntax.specs.declared.typed.Node.{roll-Node}
use Rattle.qv_syntax.specs.declared.typed.Call.TheOpen as nodes
use Rattle.qvtr_semantics.specs.declared.datum.Datum.{Datum}
use Rattle.qvtr_semantics.specs.declared.datum.Datum.TheVariants.{Obj, Val}
use Rattle.qvtr_semantics.specs.Templates.{Values}
use Rattle.qvtr_semantics.specs.Calls.{RelationCall}

-- ---- metamodels: Named (abstract), and two classes of which the first contains the second

abbrev pub text_prop : List ℕ → PropDesc
text_prop name = record { name = name; type_name = codes "String"; lower = 0; upper = Some 1; composite = false; ordered = false; opposite = None }

abbrev pub parts_prop : List ℕ → List ℕ → List ℕ → PropDesc
parts_prop name class back = record { name = name; type_name = class; lower = 0; upper = None; composite = true; ordered = false; opposite = Some (record { class = class; prop = back }) }

abbrev pub whole_prop : List ℕ → List ℕ → List ℕ → PropDesc
whole_prop name class back = record { name = name; type_name = class; lower = 0; upper = Some 1; composite = false; ordered = false; opposite = Some (record { class = class; prop = back }) }

abbrev pub metamodel : List ℕ → List ℕ → List ℕ → List ℕ → List ℕ → MetaDesc
metamodel name outer inner parts whole = record {
  name = name;
  classes = record { name = codes "Named"; is_abstract = true; supers = []; props = text_prop (codes "name") ∷ [] }
      ∷ record { name = outer; is_abstract = false; supers = codes "Named" ∷ []; props = parts_prop parts inner whole ∷ [] }
      ∷ record { name = inner; is_abstract = false; supers = codes "Named" ∷ []; props = whole_prop whole outer parts ∷ text_prop (codes "kind") ∷ [] } ∷ [];
  enums = [];
}

abbrev pub cls : MetaDesc
cls = metamodel (codes "Cls") (codes "Package") (codes "Class") (codes "classes") (codes "owner")

abbrev pub rdb : MetaDesc
rdb = metamodel (codes "Rdb") (codes "Schema") (codes "Table") (codes "tables") (codes "schema")

-- ---- models: a package `a` with the class `Order`, and a package `b`; a schema `a` with the table `Order`

abbrev pub value_slot : List ℕ → Slot
value_slot text = record { values = values.Str text ∷ []; partners = [] }

abbrev pub link_slot : List ℕ → Slot
link_slot partners = record { values = []; partners = partners }

abbrev pub outer_object : List ℕ → List ℕ → List ℕ → Option Object
outer_object id name parts = Some (record { class = 1; id = id; slots = value_slot name ∷ link_slot parts ∷ [] })

abbrev pub inner_object : List ℕ → List ℕ → ℕ → List ℕ → Option Object
inner_object id name whole kind = Some (record { class = 2; id = id; slots = value_slot name ∷ link_slot (whole ∷ []) ∷ value_slot kind ∷ [] })

abbrev pub uml_model : ModelData
uml_model = record { meta = cls; objects = outer_object (codes "p1") (codes "a") (1 ∷ []) ∷ inner_object (codes "c1") (codes "Order") 0 (codes "persistent") ∷ outer_object (codes "p2") (codes "b") [] ∷ [] }

abbrev pub rdb_model : ModelData
rdb_model = record { meta = rdb; objects = outer_object (codes "s1") (codes "a") (1 ∷ []) ∷ inner_object (codes "t1") (codes "Order") 0 (codes "") ∷ [] }

abbrev pub models : List ModelData
models = uml_model ∷ rdb_model ∷ []

-- ---- the program

abbrev pub var : ℕ → Ty → Typed
var number ty = record { ty = ty; node = roll-Node (nodes.Variable number) }

abbrev pub written : List ℕ → Typed
written text = record { ty = types.Str; node = roll-Node (nodes.Str text) }

abbrev pub class : ℕ → ℕ → Ty
class meta number = types.Class meta (record { 0 = number })

abbrev pub item : ℕ → ItemValue → Item
item prop value = record { prop = record { 0 = prop }; value = value }

abbrev pub name_item : ℕ → Item
name_item number = item 0 (roll-ItemValue (items.Expr (var number types.Str)))

abbrev pub template : ℕ → ℕ → List Item → Tmpl
template number c its = roll-Tmpl (record { var = number; class = record { 0 = c }; items = its })

abbrev pub data_var : List ℕ → Var
data_var name = record { name = name; ty = types.Str; model = None }

abbrev pub object_var : List ℕ → ℕ → ℕ → Var
object_var name model c = record { name = name; ty = class model c; model = Some model }

-- top relation PackageToSchema { pn : String; checkonly domain uml p : Package {name = pn}; enforce domain rdb s : Schema {name = pn}; }
abbrev pub package_to_schema : Rel
package_to_schema = record {
  name = codes "PackageToSchema";
  top = true;
  in_direction = true;
  stratum = 0;
  vars = data_var (codes "pn") ∷ object_var (codes "p") 0 1 ∷ object_var (codes "s") 1 1 ∷ [];
  universal = 0 ∷ 1 ∷ [];
  existential = 2 ∷ [];
  domains = record { model = Some 0; marker = Checkonly; root = 1; template = Some (template 1 1 (name_item 0 ∷ [])) }
      ∷ record { model = Some 1; marker = Enforce; root = 2; template = Some (template 2 1 (name_item 0 ∷ [])) } ∷ [];
  whens = [];
  wheres = [];
}

abbrev pub persistent_item : Item
persistent_item = item 3 (roll-ItemValue (items.Expr (written (codes "persistent"))))

abbrev pub class_items : List Item
class_items = item 2 (roll-ItemValue (items.Nested (template 2 1 []))) ∷ persistent_item ∷ name_item 0 ∷ []

abbrev pub class_tmpl : Tmpl
class_tmpl = template 1 2 class_items

abbrev pub table_items : List Item
table_items = item 2 (roll-ItemValue (items.Nested (template 4 1 []))) ∷ name_item 0 ∷ []

abbrev pub table_tmpl : Tmpl
table_tmpl = template 3 2 table_items

-- top relation ClassToTable { cn : String;
--   checkonly domain uml c : Class {owner = p : Package {}, kind = 'persistent', name = cn};
--   enforce domain rdb t : Table {schema = s : Schema {}, name = cn};
--   when { PackageToSchema(p, s); } }
abbrev pub class_to_table : Rel
class_to_table = record {
  name = codes "ClassToTable";
  top = true;
  in_direction = true;
  stratum = 1;
  vars = data_var (codes "cn") ∷ object_var (codes "c") 0 2 ∷ object_var (codes "p") 0 1 ∷ object_var (codes "t") 1 2 ∷ object_var (codes "s") 1 1 ∷ [];
  universal = 0 ∷ 1 ∷ 2 ∷ 4 ∷ [];
  existential = 3 ∷ [];
  domains = record { model = Some 0; marker = Checkonly; root = 1; template = Some class_tmpl }
      ∷ record { model = Some 1; marker = Enforce; root = 3; template = Some table_tmpl } ∷ [];
  whens = conjuncts.Call 0 (var 2 (class 0 1) ∷ var 4 (class 1 1) ∷ []) ∷ [];
  wheres = [];
}

abbrev pub program : Program
program = record {
  name = codes "Cls2Rdb";
  models = record { name = codes "uml"; meta = 0 } ∷ record { name = codes "rdb"; meta = 1 } ∷ [];
  target = 1;
  keys = [];
  rels = package_to_schema ∷ class_to_table ∷ [];
  queries = [];
}

-- ---- bindings

abbrev pub text : List ℕ → Option Datum
text s = Some (Val 0 (values.Str s))

abbrev pub object : ℕ → ℕ → Option Datum
object model o = Some (Obj model (record { 0 = o }))

-- ---- two packages, `a` and `b`, with two schemas of these names, and with the schema `a` alone

abbrev pub packages : ModelData
packages = record { meta = cls; objects = outer_object (codes "p1") (codes "a") [] ∷ outer_object (codes "p2") (codes "b") [] ∷ [] }

abbrev pub two_schemas : ModelData
two_schemas = record { meta = rdb; objects = outer_object (codes "s1") (codes "a") [] ∷ outer_object (codes "s2") (codes "b") [] ∷ [] }

abbrev pub one_schema : ModelData
one_schema = record { meta = rdb; objects = outer_object (codes "s1") (codes "a") [] ∷ [] }

abbrev pub both : List ModelData
both = packages ∷ two_schemas ∷ []

abbrev pub one_only : List ModelData
one_only = packages ∷ one_schema ∷ []

-- the package `b`
abbrev pub b_alone : Values
b_alone = text (codes "b") ∷ object 0 1 ∷ None ∷ []

-- ---- PackageToSchema alone, with the key of its schemas

abbrev pub metas : List MetaDesc
metas = cls ∷ rdb ∷ []

abbrev pub packages_alone : Program
packages_alone = record {
  name = codes "Alone";
  models = record { name = codes "uml"; meta = 0 } ∷ record { name = codes "rdb"; meta = 1 } ∷ [];
  target = 1;
  keys = record { meta = 1; class = record { 0 = 1 }; props = record { 0 = 0 } ∷ [] } ∷ [];
  rels = package_to_schema ∷ [];
  queries = [];
}

-- ---- calls of a relation: PackageToSchema(p1, s1)

abbrev pub package_call : RelationCall
package_call = record { rel = 0; roots = None ∷ object 0 0 ∷ object 1 0 ∷ [] }

-- PackageToSchema(p1, s2)
abbrev pub other_call : RelationCall
other_call = record { rel = 0; roots = None ∷ object 0 0 ∷ object 1 1 ∷ [] }

-- ---- a relation that calls itself

-- the two domains, p : Package {} and s : Schema {}, with the clause where { Again(p, s); }
abbrev calls_again : List ℕ → Bool → Rel
calls_again name top = record {
  name = name;
  top = top;
  in_direction = true;
  stratum = 0;
  vars = object_var (codes "p") 0 1 ∷ object_var (codes "s") 1 1 ∷ [];
  universal = 0 ∷ [];
  existential = 1 ∷ [];
  domains = record { model = Some 0; marker = Checkonly; root = 0; template = Some (template 0 1 []) }
      ∷ record { model = Some 1; marker = Enforce; root = 1; template = Some (template 1 1 []) } ∷ [];
  whens = [];
  wheres = conjuncts.Call 1 (var 0 (class 0 1) ∷ var 1 (class 1 1) ∷ []) ∷ [];
}

abbrev pub begins : Rel
begins = calls_again (codes "Begins") true

abbrev pub again : Rel
again = calls_again (codes "Again") false

abbrev pub looping : Program
looping = record {
  name = codes "Looping";
  models = record { name = codes "uml"; meta = 0 } ∷ record { name = codes "rdb"; meta = 1 } ∷ [];
  target = 1;
  keys = [];
  rels = begins ∷ again ∷ [];
  queries = [];
}

-- Again(p1, s1)
abbrev pub again_call : RelationCall
again_call = record { rel = 1; roots = object 0 0 ∷ object 1 0 ∷ [] }
