-- Source and target of two relations computed on small models: packages with classes, and schemas with tables.
use Rattle.std.specs.Prelude.{◌≡◌, ℕ, Bool, true, false, ◌&&◌, List, [], ◌∷◌, map, length, codes, None}
use Rattle.std.proofs.Common.{refl, ap, ◌∙◌}
use Rattle.qv_syntax.specs.declared.program.Rel.{Rel}
use Rattle.qv_syntax.specs.declared.program.Item.{Item}
use Rattle.qv_syntax.specs.declared.program.ItemValue.{ItemValue, roll-ItemValue}
use Rattle.qv_syntax.specs.declared.program.ItemValue.TheOpen as items
use Rattle.qv_syntax.specs.declared.ty.Ty.TheVariants as types
use Rattle.qv_syntax.specs.declared.typed.Node.{roll-Node}
use Rattle.qv_syntax.specs.declared.typed.Call.TheOpen as nodes
use Rattle.qvtr_semantics.specs.Outs.{datum_of}
use Rattle.qvtr_semantics.specs.Objects.{Setting}
use Rattle.qvtr_semantics.specs.Expressions.{Meaning, Queries, setting, queries_within, scope_of, node_meaning}
use Rattle.qvtr_semantics.specs.Templates.{Values, SlotMeaning, ItemMeaning, Pattern, has, slot_meaning, item_meaning, tmpl_meaning, pattern}
use Rattle.qvtr_semantics.proofs.TemplateLaws.{slot_of, item_of, template_is, item_is, slot_expr, slot_nested}
use Rattle.qvtr_semantics.proofs.ExpressionLaws.{typed_is, variable_is, string_is}
use Rattle.qvtr_semantics.specs.Bindings.{have_values, meets_source, meets_target}
use Rattle.qvtr_semantics.specs.SmallModels.{models, var, written, item, name_item, template, package_to_schema, persistent_item, class_items, class_tmpl, table_items, table_tmpl, class_to_table, program, text, object}

-- ---- what the templates ask, by their parts

abbrev pub sets : Setting
sets = setting program models

abbrev pub queries : Queries
queries = queries_within program.queries sets (length program.queries)

abbrev pub held : Meaning → SlotMeaning
held m values slot = has slot (datum_of (m (scope_of values)))

slot_of_variable : (number : ℕ) → slot_of program models (roll-ItemValue (items.Expr (var number types.Str))) ≡ held (node_meaning sets queries (nodes.Variable number))
slot_of_variable number = slot_expr program models (var number types.Str) ∙ ap held (typed_is sets queries types.Str (roll-Node (nodes.Variable number)) ∙ variable_is sets queries number)

slot_of_text : (text : List ℕ) → slot_of program models (roll-ItemValue (items.Expr (written text))) ≡ held (node_meaning sets queries (nodes.Str text))
slot_of_text text = slot_expr program models (written text) ∙ ap held (typed_is sets queries types.Str (roll-Node (nodes.Str text)) ∙ string_is sets queries text)

abbrev pub asks : ℕ → SlotMeaning → ItemMeaning
asks prop m = item_meaning sets (record { prop = record { 0 = prop }; value = m })

item_asks : (prop : ℕ) (value : ItemValue) (m : SlotMeaning) → slot_of program models value ≡ m → item_of program models (item prop value) ≡ asks prop m
item_asks prop value m h = item_is program models (record { 0 = prop }) value ∙ ap (asks prop) h

abbrev pub matching : ℕ → ℕ → List ItemMeaning → Pattern
matching number c ms = tmpl_meaning sets (record { var = number; class = record { 0 = c }; items = ms })

template_asks : (number c : ℕ) (its : List Item) (ms : List ItemMeaning) → map (item_of program models) its ≡ ms → pattern program models (template number c its) ≡ matching number c ms
template_asks number c its ms h = template_is program models number (record { 0 = c }) its ∙ ap (matching number c) h

abbrev pub named : ℕ → ItemMeaning
named number = asks 0 (held (node_meaning sets queries (nodes.Variable number)))

names : (number : ℕ) → item_of program models (name_item number) ≡ named number
names number = item_asks 0 (roll-ItemValue (items.Expr (var number types.Str))) (held (node_meaning sets queries (nodes.Variable number))) (slot_of_variable number)

-- a template that asks for a name alone
named_template : (number c name : ℕ) → pattern program models (template number c (name_item name ∷ [])) ≡ matching number c (named name ∷ [])
named_template number c name = template_asks number c (name_item name ∷ []) (named name ∷ []) (ap (λ m. m ∷ []) (names name))

abbrev pub nested : ℕ → ItemMeaning
nested number = asks 2 (slot_meaning program models (items.Nested (matching number 1 [])))

-- an item whose value is a template that asks for nothing
nested_asks : (number : ℕ) → item_of program models (item 2 (roll-ItemValue (items.Nested (template number 1 [])))) ≡ nested number
nested_asks number = item_asks 2 (roll-ItemValue (items.Nested (template number 1 []))) (slot_meaning program models (items.Nested (matching number 1 [])))
    (slot_nested program models (template number 1 []) ∙ ap (λ p. slot_meaning program models (items.Nested p)) (template_asks number 1 [] [] refl))

abbrev pub persistent : ItemMeaning
persistent = asks 3 (held (node_meaning sets queries (nodes.Str (codes "persistent"))))

class_template : pattern program models class_tmpl ≡ matching 1 2 (nested 2 ∷ persistent ∷ named 0 ∷ [])
class_template = template_asks 1 2 class_items (nested 2 ∷ persistent ∷ named 0 ∷ [])
    (ap (λ m. m ∷ map (item_of program models) (persistent_item ∷ name_item 0 ∷ [])) (nested_asks 2)
    ∙ ap (λ m. nested 2 ∷ m ∷ map (item_of program models) (name_item 0 ∷ [])) (item_asks 3 (roll-ItemValue (items.Expr (written (codes "persistent")))) (held (node_meaning sets queries (nodes.Str (codes "persistent")))) (slot_of_text (codes "persistent")))
    ∙ ap (λ m. nested 2 ∷ persistent ∷ m ∷ []) (names 0))

table_template : pattern program models table_tmpl ≡ matching 3 2 (nested 4 ∷ named 0 ∷ [])
table_template = template_asks 3 2 table_items (nested 4 ∷ named 0 ∷ [])
    (ap (λ m. m ∷ map (item_of program models) (name_item 0 ∷ [])) (nested_asks 4) ∙ ap (λ m. nested 4 ∷ m ∷ []) (names 0))

-- ---- source and target of PackageToSchema: the package a has a partner, the package b has none, and no other pair meets the source

abbrev pub source_by : Pattern → Rel → Values → Bool
source_by p rel b = have_values program models rel rel.universal b && (p.matches b && true) && true

abbrev pub target_by : Pattern → Rel → Values → Bool
target_by p rel g = have_values program models rel rel.existential g && (p.matches g && true) && true

package_source : (b : Values) (answer : Bool) → source_by (matching 1 1 (named 0 ∷ [])) package_to_schema b ≡ answer → source_by (pattern program models (template 1 1 (name_item 0 ∷ []))) package_to_schema b ≡ answer
package_source b answer h = ap (λ p. source_by p package_to_schema b) (named_template 1 1 0) ∙ h

schema_target : (g : Values) (answer : Bool) → target_by (matching 2 1 (named 0 ∷ [])) package_to_schema g ≡ answer → target_by (pattern program models (template 2 1 (name_item 0 ∷ []))) package_to_schema g ≡ answer
schema_target g answer h = ap (λ p. target_by p package_to_schema g) (named_template 2 1 0) ∙ h

pub package_a_is_a_source : meets_source program models package_to_schema (text (codes "a") ∷ object 0 0 ∷ None ∷ []) ≡ true
package_a_is_a_source = package_source (text (codes "a") ∷ object 0 0 ∷ None ∷ []) true refl

pub package_b_is_a_source : meets_source program models package_to_schema (text (codes "b") ∷ object 0 2 ∷ None ∷ []) ≡ true
package_b_is_a_source = package_source (text (codes "b") ∷ object 0 2 ∷ None ∷ []) true refl

pub no_package_of_another_name : meets_source program models package_to_schema (text (codes "b") ∷ object 0 0 ∷ None ∷ []) ≡ false
no_package_of_another_name = package_source (text (codes "b") ∷ object 0 0 ∷ None ∷ []) false refl

pub no_class_is_a_package : meets_source program models package_to_schema (text (codes "Order") ∷ object 0 1 ∷ None ∷ []) ≡ false
no_class_is_a_package = package_source (text (codes "Order") ∷ object 0 1 ∷ None ∷ []) false refl

pub schema_a_is_a_partner : meets_target program models package_to_schema (text (codes "a") ∷ object 0 0 ∷ object 1 0 ∷ []) ≡ true
schema_a_is_a_partner = schema_target (text (codes "a") ∷ object 0 0 ∷ object 1 0 ∷ []) true refl

pub schema_a_is_none_of_b : meets_target program models package_to_schema (text (codes "b") ∷ object 0 2 ∷ object 1 0 ∷ []) ≡ false
schema_a_is_none_of_b = schema_target (text (codes "b") ∷ object 0 2 ∷ object 1 0 ∷ []) false refl

-- ---- ClassToTable: the persistent class with its package, for any value of the schema, which the when clause alone ties

class_source : (b : Values) (answer : Bool) → source_by (matching 1 2 (nested 2 ∷ persistent ∷ named 0 ∷ [])) class_to_table b ≡ answer → source_by (pattern program models class_tmpl) class_to_table b ≡ answer
class_source b answer h = ap (λ p. source_by p class_to_table b) class_template ∙ h

table_target : (g : Values) (answer : Bool) → target_by (matching 3 2 (nested 4 ∷ named 0 ∷ [])) class_to_table g ≡ answer → target_by (pattern program models table_tmpl) class_to_table g ≡ answer
table_target g answer h = ap (λ p. target_by p class_to_table g) table_template ∙ h

pub class_is_a_source : meets_source program models class_to_table (text (codes "Order") ∷ object 0 1 ∷ object 0 0 ∷ None ∷ object 1 0 ∷ []) ≡ true
class_is_a_source = class_source (text (codes "Order") ∷ object 0 1 ∷ object 0 0 ∷ None ∷ object 1 0 ∷ []) true refl

pub not_in_another_package : meets_source program models class_to_table (text (codes "Order") ∷ object 0 1 ∷ object 0 2 ∷ None ∷ object 1 0 ∷ []) ≡ false
not_in_another_package = class_source (text (codes "Order") ∷ object 0 1 ∷ object 0 2 ∷ None ∷ object 1 0 ∷ []) false refl

pub table_is_a_partner : meets_target program models class_to_table (text (codes "Order") ∷ object 0 1 ∷ object 0 0 ∷ object 1 1 ∷ object 1 0 ∷ []) ≡ true
table_is_a_partner = table_target (text (codes "Order") ∷ object 0 1 ∷ object 0 0 ∷ object 1 1 ∷ object 1 0 ∷ []) true refl

pub not_in_another_schema : meets_target program models class_to_table (text (codes "Order") ∷ object 0 1 ∷ object 0 0 ∷ object 1 0 ∷ object 1 0 ∷ []) ≡ false
not_in_another_schema = table_target (text (codes "Order") ∷ object 0 1 ∷ object 0 0 ∷ object 1 0 ∷ object 1 0 ∷ []) false refl
