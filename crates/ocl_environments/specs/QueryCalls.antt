-- Which queries a typed tree calls, by their numbers, in the order in which they are written (QVT 1.3, section 7.11.1.4).
use Rattle.std.specs.Prelude.{◌≡◌, ◌+◌, ℕ, List, [], ◌∷◌, ◌++◌, Some, map, replicate, slice_get}
use Rattle.std.specs.List.{concat}
use Rattle.call_graph.specs.Graphs.{IsOnCycle}
use Rattle.ocl_environments.specs.declared.fault.TypeFault.{TypeFault}
use Rattle.ocl_environments.specs.declared.fault.TypeFault.TheVariants.{QueryCycle}
use Rattle.qv_syntax.specs.declared.query.Query.{Query}
use Rattle.qv_syntax.specs.declared.typed.Call.{Call, fold-Call}
use Rattle.qv_syntax.specs.declared.typed.Node.{Node, fold-Node}
use Rattle.qv_syntax.specs.declared.typed.Typed.{Typed, fold-Typed}
use Rattle.qv_syntax.specs.declared.typed.TypedInfix.{TypedInfix, fold-TypedInfix}
use Rattle.qv_syntax.specs.declared.typed.TypedPostfix.{TypedPostfix, fold-TypedPostfix}
use Rattle.qv_syntax.specs.declared.typed.Call.TheOpen as of

abbrev pub call_step : of.Call-F (List ℕ) (List ℕ) (List ℕ) (List ℕ) (List ℕ) → List ℕ
call_step (of.Property prop values) = []
call_step (of.CollectProperty prop values) = []
call_step (of.Operation operation args) = concat args
call_step (of.Class operation class) = []
call_step (of.Collection operation args) = concat args
call_step (of.Iterator iterator variable body) = body

abbrev pub node_step : of.Node-F (List ℕ) (List ℕ) (List ℕ) (List ℕ) (List ℕ) → List ℕ
node_step (of.Number value) = []
node_step (of.Str value) = []
node_step (of.Bool value) = []
node_step of.Null = []
node_step of.Invalid = []
node_step (of.EnumLiteral meta enumeration literal) = []
node_step (of.Variable number) = []
node_step (of.Let variable value body) = value ++ body
node_step (of.Chain first rest) = first ++ concat rest
node_step (of.Not operand) = operand
node_step (of.Negated operand) = operand
node_step (of.Calls part calls) = part ++ concat calls
node_step (of.If condition one other) = condition ++ (one ++ other)
node_step (of.Coll kind elements) = concat elements
node_step (of.Extent model class) = []
node_step (of.Query query args) = query ∷ concat args

abbrev pub typed_step : of.Typed-F (List ℕ) (List ℕ) (List ℕ) (List ℕ) (List ℕ) → List ℕ
typed_step t = t.node

abbrev pub infix_step : of.TypedInfix-F (List ℕ) (List ℕ) (List ℕ) (List ℕ) (List ℕ) → List ℕ
infix_step l = l.right

abbrev pub postfix_step : of.TypedPostfix-F (List ℕ) (List ℕ) (List ℕ) (List ℕ) (List ℕ) → List ℕ
postfix_step p = p.call

abbrev pub called_by : Typed → List ℕ
called_by = fold-Typed (List ℕ) (List ℕ) (List ℕ) (List ℕ) (List ℕ) call_step node_step typed_step infix_step postfix_step

abbrev pub called_in_node : Node → List ℕ
called_in_node = fold-Node (List ℕ) (List ℕ) (List ℕ) (List ℕ) (List ℕ) call_step node_step typed_step infix_step postfix_step

abbrev pub called_in_call : Call → List ℕ
called_in_call = fold-Call (List ℕ) (List ℕ) (List ℕ) (List ℕ) (List ℕ) call_step node_step typed_step infix_step postfix_step

abbrev pub called_behind : TypedInfix → List ℕ
called_behind = fold-TypedInfix (List ℕ) (List ℕ) (List ℕ) (List ℕ) (List ℕ) call_step node_step typed_step infix_step postfix_step

abbrev pub called_with : TypedPostfix → List ℕ
called_with = fold-TypedPostfix (List ℕ) (List ℕ) (List ℕ) (List ℕ) (List ℕ) call_step node_step typed_step infix_step postfix_step

-- a row for each query: those of which the first so many call none, and then of these
abbrev pub rows_of : ℕ → List Query → List (List ℕ)
rows_of before queries = replicate before [] ++ map (λ q. called_by q.body) queries

-- the query of this place has the name
pub record HasNameAt (queries : List Query) (place : ℕ) (name : List ℕ) : Type 0 where
  pub query : Query
  pub found : slice_get queries place ≡ Some query
  pub names : name ≡ query.name

-- the fault names one of these queries, and calls lead from it back to it
pub record IsCycleFault (before : ℕ) (queries : List Query) (fault : TypeFault) : Type 0 where
  pub place : ℕ
  pub name : List ℕ
  pub query : HasNameAt queries place name
  pub cycle : IsOnCycle (rows_of before queries) (before + place)
  pub names : fault ≡ QueryCycle name
