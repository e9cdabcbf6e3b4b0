-- Whether each string literal within an expression, a relation or a query is storable, by recursion on the tree.
use Rattle.std.specs.Prelude.{Bool, true, ◌&&◌, List, map, Option, None, Some}
use Rattle.std.specs.List.{list_all}
use Rattle.mof_metamodel.specs.Characters.{is_storable_text}
use Rattle.qv_syntax.specs.declared.typed.Typed.{Typed, fold-Typed}
use Rattle.qv_syntax.specs.declared.typed.TypedInfix.{TypedInfix, fold-TypedInfix}
use Rattle.qv_syntax.specs.declared.typed.TypedPostfix.{TypedPostfix, fold-TypedPostfix}
use Rattle.qv_syntax.specs.declared.typed.Node.{Node, fold-Node}
use Rattle.qv_syntax.specs.declared.typed.Call.{Call, fold-Call}
use Rattle.qv_syntax.specs.declared.typed.Call.TheOpen as of
use Rattle.qv_syntax.specs.declared.query.Query.{Query}
use Rattle.qv_syntax.specs.declared.program.Rel.{Rel}
use Rattle.qv_syntax.specs.declared.program.Dom.{Dom}
use Rattle.qv_syntax.specs.declared.program.Tmpl.{Tmpl, fold-Tmpl}
use Rattle.qv_syntax.specs.declared.program.Item.{Item, fold-Item}
use Rattle.qv_syntax.specs.declared.program.ItemValue.{ItemValue, fold-ItemValue}
use Rattle.qv_syntax.specs.declared.program.ItemValue.TheOpen as layers
use Rattle.qv_syntax.specs.declared.program.Conj.{Conj}
use Rattle.qv_syntax.specs.declared.program.Conj.TheVariants as conjuncts

abbrev pub all_true : List Bool → Bool
all_true bs = list_all (λ b. b) bs

abbrev pub call_stored : of.Call-F Bool Bool Bool Bool Bool → Bool
call_stored (of.Property prop gives) = true
call_stored (of.CollectProperty prop gives) = true
call_stored (of.Operation o args) = all_true args
call_stored (of.Class o class) = true
call_stored (of.Collection o args) = all_true args
call_stored (of.Iterator i number body) = body

abbrev pub node_stored : of.Node-F Bool Bool Bool Bool Bool → Bool
node_stored (of.Number value) = true
node_stored (of.Str text) = is_storable_text text
node_stored (of.Bool value) = true
node_stored of.Null = true
node_stored of.Invalid = true
node_stored (of.EnumLiteral meta enumeration literal) = true
node_stored (of.Variable number) = true
node_stored (of.Let number value body) = value && body
node_stored (of.Chain first rest) = first && all_true rest
node_stored (of.Not operand) = operand
node_stored (of.Negated operand) = operand
node_stored (of.Calls part calls) = part && all_true calls
node_stored (of.If condition one other) = condition && (one && other)
node_stored (of.Coll kind elements) = all_true elements
node_stored (of.Extent model class) = true
node_stored (of.Query query args) = all_true args

abbrev pub typed_stored : of.Typed-F Bool Bool Bool Bool Bool → Bool
typed_stored t = t.node

abbrev pub infix_stored : of.TypedInfix-F Bool Bool Bool Bool Bool → Bool
infix_stored i = i.right

abbrev pub postfix_stored : of.TypedPostfix-F Bool Bool Bool Bool Bool → Bool
postfix_stored p = p.call

abbrev pub is_stored : Typed → Bool
is_stored = fold-Typed Bool Bool Bool Bool Bool call_stored node_stored typed_stored infix_stored postfix_stored

abbrev pub is_node_stored : Node → Bool
is_node_stored = fold-Node Bool Bool Bool Bool Bool call_stored node_stored typed_stored infix_stored postfix_stored

abbrev pub is_call_stored : Call → Bool
is_call_stored = fold-Call Bool Bool Bool Bool Bool call_stored node_stored typed_stored infix_stored postfix_stored

abbrev pub is_infix_stored : TypedInfix → Bool
is_infix_stored = fold-TypedInfix Bool Bool Bool Bool Bool call_stored node_stored typed_stored infix_stored postfix_stored

abbrev pub is_postfix_stored : TypedPostfix → Bool
is_postfix_stored = fold-TypedPostfix Bool Bool Bool Bool Bool call_stored node_stored typed_stored infix_stored postfix_stored

-- ---- relations

abbrev pub value_step : layers.ItemValue-F Bool Bool Bool → Bool
value_step layers.Null = true
value_step (layers.Expr e) = is_stored e
value_step (layers.Nested inner) = inner

abbrev pub item_step : layers.Item-F Bool Bool Bool → Bool
item_step item = item.value

abbrev pub template_step : layers.Tmpl-F Bool Bool Bool → Bool
template_step t = all_true t.items

abbrev pub is_template_stored : Tmpl → Bool
is_template_stored = fold-Tmpl Bool Bool Bool value_step item_step template_step

abbrev pub is_item_stored : Item → Bool
is_item_stored = fold-Item Bool Bool Bool value_step item_step template_step

abbrev pub is_value_stored : ItemValue → Bool
is_value_stored = fold-ItemValue Bool Bool Bool value_step item_step template_step

abbrev pub is_conjunct_stored : Conj → Bool
is_conjunct_stored (conjuncts.Cond e) = is_stored e
is_conjunct_stored (conjuncts.Equation v e) = is_stored e
is_conjunct_stored (conjuncts.Call rel args) = all_true (map is_stored args)

abbrev pub is_root_stored : Option Tmpl → Bool
is_root_stored None = true
is_root_stored (Some t) = is_template_stored t

abbrev pub is_domain_stored : Dom → Bool
is_domain_stored dom = is_root_stored dom.template

abbrev pub is_relation_stored : Rel → Bool
is_relation_stored rel = all_true (map is_conjunct_stored rel.whens) && (all_true (map is_conjunct_stored rel.wheres) && all_true (map is_domain_stored rel.domains))

abbrev pub is_query_stored : Query → Bool
is_query_stored query = is_stored query.body
