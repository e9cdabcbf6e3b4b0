-- What stands within what: the expressions within an expression, the templates within a template, and the variables that an expression
-- names (OCL 2.4, section 8.3; QVT 1.3, section 7.11.2).
use Rattle.std.specs.Prelude.{ℕ, List, [], ◌∷◌, map, Contains}
use Rattle.std.specs.List.{flat_map}
use Rattle.mof_metamodel.specs.declared.desc.PropId.{PropId}
use Rattle.qv_syntax.specs.declared.ty.Ty.{Ty}
use Rattle.qv_syntax.specs.declared.typed.Typed.{Typed}
use Rattle.qv_syntax.specs.declared.typed.Node.{Node, out-Node}
use Rattle.qv_syntax.specs.declared.typed.Node.TheVariants as nodes
use Rattle.qv_syntax.specs.declared.typed.Call.{Call, out-Call}
use Rattle.qv_syntax.specs.declared.typed.Call.TheOpen as of
use Rattle.qv_syntax.specs.declared.typed.TypedInfix.{TypedInfix}
use Rattle.qv_syntax.specs.declared.typed.TypedPostfix.{TypedPostfix}
use Rattle.qv_syntax.specs.declared.program.Tmpl.{Tmpl, out-Tmpl, fold-Tmpl}
use Rattle.qv_syntax.specs.declared.program.Item.{Item}
use Rattle.qv_syntax.specs.declared.program.ItemValue.TheVariants as items
use Rattle.qv_syntax.specs.declared.program.ItemValue.TheOpen as of_templates

-- ---- expressions

abbrev pub call_parts : of.Call-F Call Node Typed TypedInfix TypedPostfix → List Typed
call_parts (of.Property prop gives) = []
call_parts (of.CollectProperty prop gives) = []
call_parts (of.Operation o args) = args
call_parts (of.Class o class) = []
call_parts (of.Collection o args) = args
call_parts (of.Iterator i number body) = body ∷ []

-- the arguments or the body of a call
abbrev pub parts_of_call : TypedPostfix → List Typed
parts_of_call step = call_parts (out-Call step.call)

abbrev pub node_parts : of.Node-F Call Node Typed TypedInfix TypedPostfix → List Typed
node_parts (of.Number value) = []
node_parts (of.Str value) = []
node_parts (of.Bool value) = []
node_parts of.Null = []
node_parts of.Invalid = []
node_parts (of.EnumLiteral meta enumeration literal) = []
node_parts (of.Variable number) = []
node_parts (of.Let number value body) = value ∷ body ∷ []
node_parts (of.Chain first rest) = first ∷ map (λ link. link.right) rest
node_parts (of.Not operand) = operand ∷ []
node_parts (of.Negated operand) = operand ∷ []
node_parts (of.Calls part steps) = part ∷ flat_map parts_of_call steps
node_parts (of.If condition one other) = condition ∷ one ∷ other ∷ []
node_parts (of.Coll kind elements) = elements
node_parts (of.Extent model class) = []
node_parts (of.Query number args) = args

-- the parts of an expression
abbrev pub parts_of : Typed → List Typed
parts_of e = node_parts (out-Node e.node)

-- the second expression is the first, or stands within it
pub data IsWithin : Typed → Typed → Type 0 where
  whole : (e : Typed) → IsWithin e e
  inside : (e part inner : Typed) → Contains (parts_of e) part → IsWithin part inner → IsWithin e inner

-- the expression names the variable of this number
abbrev pub Names : Typed → ℕ → Type 0
Names e v = (ty : Ty) × IsWithin e (record { ty = ty; node = nodes.Variable v })

-- the expression calls the query of this number
abbrev pub CallsQuery : Typed → ℕ → Type 0
CallsQuery e q = (ty : Ty) × (args : List Typed) × IsWithin e (record { ty = ty; node = nodes.Query q args })

-- ---- templates

-- the second template is the first, or stands within it as the value of an item
pub data IsNested : Tmpl → Tmpl → Type 0 where
  whole : (t : Tmpl) → IsNested t t
  inside : (t : Tmpl) (prop : PropId) (part inner : Tmpl)
      → Contains (out-Tmpl t).items (record { prop = prop; value = items.Nested part }) → IsNested part inner → IsNested t inner

-- the template has the item
abbrev pub HasItem : Tmpl → Item → Type 0
HasItem t item = Contains (out-Tmpl t).items item

abbrev pub value_variables : of_templates.ItemValue-F (List ℕ) (List ℕ) (List ℕ) → List ℕ
value_variables of_templates.Null = []
value_variables (of_templates.Expr e) = []
value_variables (of_templates.Nested inner) = inner

abbrev pub item_variables : of_templates.Item-F (List ℕ) (List ℕ) (List ℕ) → List ℕ
item_variables item = item.value

abbrev pub template_step : of_templates.Tmpl-F (List ℕ) (List ℕ) (List ℕ) → List ℕ
template_step t = t.var ∷ flat_map (λ vs. vs) t.items

-- the variables of a template and of those within it, one for each template
abbrev pub template_variables : Tmpl → List ℕ
template_variables = fold-Tmpl (List ℕ) (List ℕ) (List ℕ) value_variables item_variables template_step
