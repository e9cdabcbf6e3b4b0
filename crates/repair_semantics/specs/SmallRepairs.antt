-- Small programs, demands and models, with which the definitions are computed: packages with classes, and schemas with tables and remarks.
use Rattle.std.specs.Prelude.{ℕ, false, List, [], ◌∷◌, ◌++◌, map, codes, Option, None, Some}
use Rattle.mof_metamodel.specs.declared.desc.MetaDesc.{MetaDesc}
use Rattle.object_tables.specs.declared.value.Value.TheVariants as values
use Rattle.object_tables.specs.Objects.{Object}
use Rattle.object_tables.specs.Models.{ModelData}
use Rattle.qv_syntax.specs.declared.program.Program.{Program}
use Rattle.qv_syntax.specs.declared.program.Key.{Key}
use Rattle.qv_syntax.specs.declared.program.Rel.{Rel}
use Rattle.qv_syntax.specs.declared.program.ItemValue.{roll-ItemValue}
use Rattle.qv_syntax.specs.declared.program.ItemValue.TheOpen as items
use Rattle.qv_syntax.specs.declared.program.Marker.TheVariants.{Checkonly, Enforce}
use Rattle.qv_syntax.specs.declared.program.Conj.TheVariants as conjuncts
use Rattle.qv_syntax.specs.declared.ty.Ty.TheVariants as types
use Rattle.qv_syntax.specs.declared.typed.Typed.{Typed}
use Rattle.qv_syntax.specs.declared.typed.Node.{roll-Node}
use Rattle.qv_syntax.specs.declared.typed.Call.TheOpen as nodes
use Rattle.qvtr_semantics.specs.declared.datum.Datum.TheVariants.{Obj, Val}
use Rattle.qvtr_semantics.specs.SmallModels.{cls, rdb, text_prop, value_slot, link_slot, outer_object, inner_object, template, name_item, item, package_to_schema, class_to_table}
use Rattle.repair_semantics.specs.declared.term.Term.{Term, roll-Term}
use Rattle.repair_semantics.specs.declared.term.TermValue.{TermValue, roll-TermValue}
use Rattle.repair_semantics.specs.declared.term.TermValue.TheOpen as of
use Rattle.repair_semantics.specs.declared.demand.Demand.{Demand}
use Rattle.repair_semantics.specs.EntryValues.{TermValues}
use Rattle.repair_semantics.specs.Claims.{Held, Spot, Said, Claim}
use Rattle.repair_semantics.specs.Making.{keyed}

-- ---- programs: PackageToSchema and ClassToTable, with the keys Schema {name} and Table {schema, name}

abbrev pub key : ℕ → List ℕ → Key
key class props = record { meta = 1; class = record { 0 = class }; props = map (λ p. record { 0 = p }) props }

abbrev pub two_relations : Program
two_relations = record {
  name = codes "Cls2Rdb";
  models = record { name = codes "uml"; meta = 0 } ∷ record { name = codes "rdb"; meta = 1 } ∷ [];
  target = 1;
  keys = key 1 (0 ∷ []) ∷ key 2 (2 ∷ 0 ∷ []) ∷ [];
  rels = package_to_schema ∷ class_to_table ∷ [];
  queries = [];
}

-- ---- terms

abbrev pub text_value : List ℕ → TermValue
text_value s = roll-TermValue (of.Val (Val 0 (values.Str s)))

abbrev pub source_object : ℕ → TermValue
source_object o = roll-TermValue (of.Val (Obj 0 (record { 0 = o })))

abbrev pub term : ℕ → List TermValue → Term
term class keys = roll-Term (record { class = record { 0 = class }; keys = keys })

abbrev pub term_value : Term → TermValue
term_value t = roll-TermValue (of.Term t)

-- Schema[name = ..]
abbrev pub schema : List ℕ → Term
schema name = term 1 (text_value name ∷ [])

-- Table[schema = .., name = ..]
abbrev pub table : Term → List ℕ → Term
table s name = term 2 (term_value s ∷ text_value name ∷ [])

abbrev pub demand : ℕ → Term → ℕ → TermValue → Demand
demand entry owner p v = record { entry = entry; owner = owner; prop = record { 0 = p }; value = v }

-- ---- models

-- the metamodel with a class of remarks, which no relation names
abbrev pub rdb_with_remarks : MetaDesc
rdb_with_remarks = record {
  name = rdb.name;
  classes = rdb.classes ++ record { name = codes "Remark"; is_abstract = false; supers = []; props = text_prop (codes "text") ∷ [] } ∷ [];
  enums = [];
}

abbrev pub remark : List ℕ → List ℕ → Option Object
remark id text = Some (record { class = 3; id = id; slots = value_slot text ∷ [] })

abbrev pub no_objects : ModelData
no_objects = record { meta = rdb; objects = [] }

-- a schema `a` with the table `x`, and a remark
abbrev pub with_remark : ModelData
with_remark = record { meta = rdb_with_remarks; objects = outer_object (codes "s1") (codes "a") (1 ∷ []) ∷ inner_object (codes "t1") (codes "x") 0 (codes "") ∷ remark (codes "q1") (codes "hi") ∷ [] }

-- two schemas `a`, of which the second has a table
abbrev pub twice : ModelData
twice = record { meta = rdb; objects = outer_object (codes "s1") (codes "a") [] ∷ outer_object (codes "s2") (codes "a") (2 ∷ []) ∷ inner_object (codes "t1") (codes "x") 1 (codes "") ∷ [] }

-- the schema `shop` with the tables `Order` and `Item`
abbrev pub shop : ModelData
shop = record { meta = rdb; objects = outer_object (codes "s1") (codes "shop") (1 ∷ 2 ∷ []) ∷ inner_object (codes "t1") (codes "Order") 0 (codes "keep") ∷ inner_object (codes "t2") (codes "Item") 0 (codes "gone") ∷ [] }

-- ---- what they become

abbrev pub remark_alone : ModelData
remark_alone = record { meta = rdb_with_remarks; objects = None ∷ None ∷ remark (codes "q1") (codes "hi") ∷ [] }

-- that the schema `a` has this name
abbrev pub one_demand : List Demand
one_demand = demand 0 (schema (codes "a")) 0 (text_value (codes "a")) ∷ []

abbrev pub one_of_two : ModelData
one_of_two = record { meta = rdb; objects = outer_object (codes "s1") (codes "a") [] ∷ None ∷ None ∷ [] }

-- ---- entries: the package `shop` with the persistent class `Order`, and no schema

abbrev pub packages_of_shop : List ModelData
packages_of_shop = record { meta = cls; objects = outer_object (codes "p1") (codes "shop") (1 ∷ []) ∷ inner_object (codes "c1") (codes "Order") 0 (codes "persistent") ∷ [] } ∷ no_objects ∷ []

-- pn = 'shop', p = p1
abbrev pub package_values : TermValues
package_values = Some (text_value (codes "shop")) ∷ Some (source_object 0) ∷ None ∷ []

-- cn = 'Order', c = c1, p = p1, s = Schema[name = 'shop']
abbrev pub class_values : TermValues
class_values = Some (text_value (codes "Order")) ∷ Some (source_object 1) ∷ Some (source_object 0) ∷ None ∷ Some (term_value (schema (codes "shop"))) ∷ []

-- s = Schema[name = 'shop']
abbrev pub package_made : TermValues
package_made = None ∷ None ∷ Some (keyed 1 (text_value (codes "shop") ∷ [])) ∷ []

-- t = Table[schema = Schema[name = 'shop'], name = 'Order']
abbrev pub class_made : TermValues
class_made = None ∷ None ∷ None ∷ Some (keyed 2 (term_value (schema (codes "shop")) ∷ text_value (codes "Order") ∷ [])) ∷ None ∷ []

-- ---- one schema with two names

abbrev pub first_name : Demand
first_name = demand 0 (schema (codes "a")) 0 (text_value (codes "a"))

abbrev pub second_name : Demand
second_name = demand 0 (schema (codes "a")) 0 (text_value (codes "x"))

abbrev pub two_names : List Demand
two_names = first_name ∷ second_name ∷ []

-- that the schema `a` has this name
abbrev pub name_claim : List ℕ → Claim Term
name_claim s = record { spot = Spot.slot (schema (codes "a")) 0; said = Said.element (Held.datum (Val 0 (values.Str s))) }

-- ---- relations that are unmet: PackageToSchema with where { false; }, and with name = null

abbrev pub never : Rel
never = record package_to_schema { wheres = conjuncts.Cond (record { ty = types.Bool; node = roll-Node (nodes.Bool false) }) ∷ [] }

abbrev pub nothing : Typed
nothing = record { ty = types.Str; node = roll-Node nodes.Null }

abbrev pub nameless : Rel
nameless = record package_to_schema {
  domains = record { model = Some 0; marker = Checkonly; root = 1; template = Some (template 1 1 (name_item 0 ∷ [])) }
      ∷ record { model = Some 1; marker = Enforce; root = 2; template = Some (template 2 1 (item 0 (roll-ItemValue (items.Expr nothing)) ∷ [])) } ∷ [];
}

-- ---- a schema `shop` with the tables `Order` and `Product`

abbrev pub shop_term : Term
shop_term = schema (codes "shop")

abbrev pub order_term : Term
order_term = table shop_term (codes "Order")

abbrev pub product_term : Term
product_term = table shop_term (codes "Product")

-- in order
abbrev pub shop_terms : List Term
shop_terms = shop_term ∷ order_term ∷ product_term ∷ []

abbrev pub shop_demands : List Demand
shop_demands =
    demand 0 shop_term 0 (text_value (codes "shop"))
    ∷ demand 1 order_term 2 (term_value shop_term) ∷ demand 1 order_term 0 (text_value (codes "Order"))
    ∷ demand 2 product_term 2 (term_value shop_term) ∷ demand 2 product_term 0 (text_value (codes "Product")) ∷ []

-- the table `Order` with its note, and a fresh table `Product` with this identifier
abbrev pub shop_with : List ℕ → ModelData
shop_with id = record {
  meta = rdb;
  objects =
      outer_object (codes "s1") (codes "shop") (1 ∷ 3 ∷ [])
      ∷ inner_object (codes "t1") (codes "Order") 0 (codes "keep")
      ∷ None
      ∷ Some (record { class = 2; id = id; slots = value_slot (codes "Product") ∷ link_slot (0 ∷ []) ∷ link_slot [] ∷ [] }) ∷ [];
}

abbrev pub shop_repaired : ModelData
shop_repaired = shop_with (codes "n0")
