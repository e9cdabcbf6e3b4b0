-- When the value of an expression is settled: each variable of the relation that it names has a value (OCL 2.4, section 8.3).
use Rattle.std.specs.Prelude.{ℕ, Bool, true, ◌&&◌, List, Option, None, Some, is_some, slice_get}
use Rattle.std.specs.List.{list_all}
use Rattle.qv_syntax.specs.declared.typed.Typed.{Typed, fold-Typed}
use Rattle.qv_syntax.specs.declared.typed.TypedInfix.{TypedInfix, fold-TypedInfix}
use Rattle.qv_syntax.specs.declared.typed.TypedPostfix.{TypedPostfix, fold-TypedPostfix}
use Rattle.qv_syntax.specs.declared.typed.Node.{Node, fold-Node}
use Rattle.qv_syntax.specs.declared.typed.Call.{Call, fold-Call}
use Rattle.qv_syntax.specs.declared.typed.Call.TheOpen as of
use Rattle.qvtr_semantics.specs.declared.datum.Datum.{Datum}
use Rattle.qvtr_semantics.specs.Templates.{Values}

-- a variable of the relation has a value; those of `let` and of iterators, whose numbers are behind, are known where they are named
abbrev pub has_place : Option (Option Datum) → Bool
has_place None = true
has_place (Some value) = is_some value

abbrev pub is_known : Values → ℕ → Bool
is_known a v = has_place (slice_get a v)

abbrev pub all_true : List Bool → Bool
all_true bs = list_all (λ b. b) bs

abbrev pub call_ready : of.Call-F Bool Bool Bool Bool Bool → Bool
call_ready (of.Property prop gives) = true
call_ready (of.CollectProperty prop gives) = true
call_ready (of.Operation o args) = all_true args
call_ready (of.Class o class) = true
call_ready (of.Collection o args) = all_true args
call_ready (of.Iterator i number body) = body

abbrev pub node_ready : Values → of.Node-F Bool Bool Bool Bool Bool → Bool
node_ready a (of.Number value) = true
node_ready a (of.Str value) = true
node_ready a (of.Bool value) = true
node_ready a of.Null = true
node_ready a of.Invalid = true
node_ready a (of.EnumLiteral meta enumeration literal) = true
node_ready a (of.Variable number) = is_known a number
node_ready a (of.Let number value body) = value && body
node_ready a (of.Chain first rest) = first && all_true rest
node_ready a (of.Not operand) = operand
node_ready a (of.Negated operand) = operand
node_ready a (of.Calls part calls) = part && all_true calls
node_ready a (of.If condition one other) = condition && (one && other)
node_ready a (of.Coll kind elements) = all_true elements
node_ready a (of.Extent model class) = true
node_ready a (of.Query query args) = all_true args

abbrev pub typed_ready : of.Typed-F Bool Bool Bool Bool Bool → Bool
typed_ready t = t.node

abbrev pub infix_ready : of.TypedInfix-F Bool Bool Bool Bool Bool → Bool
infix_ready i = i.right

abbrev pub postfix_ready : of.TypedPostfix-F Bool Bool Bool Bool Bool → Bool
postfix_ready p = p.call

-- each variable of the relation that the expression names has a value
abbrev pub is_ready : Values → Typed → Bool
is_ready a = fold-Typed Bool Bool Bool Bool Bool call_ready (node_ready a) typed_ready infix_ready postfix_ready

abbrev pub is_node_ready : Values → Node → Bool
is_node_ready a = fold-Node Bool Bool Bool Bool Bool call_ready (node_ready a) typed_ready infix_ready postfix_ready

abbrev pub is_call_ready : Values → Call → Bool
is_call_ready a = fold-Call Bool Bool Bool Bool Bool call_ready (node_ready a) typed_ready infix_ready postfix_ready

abbrev pub is_infix_ready : Values → TypedInfix → Bool
is_infix_ready a = fold-TypedInfix Bool Bool Bool Bool Bool call_ready (node_ready a) typed_ready infix_ready postfix_ready

abbrev pub is_postfix_ready : Values → TypedPostfix → Bool
is_postfix_ready a = fold-TypedPostfix Bool Bool Bool Bool Bool call_ready (node_ready a) typed_ready infix_ready postfix_ready
