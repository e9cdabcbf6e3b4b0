-- What an expression names, in the order in which it is written (OCL 2.4, section 8.3): variables, queries that are called, and the models
-- of extents.
use Rattle.std.specs.Prelude.{ℕ, List, [], ◌∷◌, ◌++◌, nat_lt, if◌then◌else◌}
use Rattle.std.specs.List.{flat_map}
use Rattle.qv_syntax.specs.declared.typed.Call.{Call, fold-Call}
use Rattle.qv_syntax.specs.declared.typed.Node.{Node, fold-Node}
use Rattle.qv_syntax.specs.declared.typed.Typed.{Typed, fold-Typed}
use Rattle.qv_syntax.specs.declared.typed.TypedInfix.{TypedInfix, fold-TypedInfix}
use Rattle.qv_syntax.specs.declared.typed.TypedPostfix.{TypedPostfix, fold-TypedPostfix}
use Rattle.qv_syntax.specs.declared.typed.Call.TheOpen as of
use Rattle.enforcement_rules.specs.declared.mention.Mention.{Mention}
use Rattle.enforcement_rules.specs.declared.mention.Mention.TheVariants as mentions

abbrev pub L : Type 0
L = List Mention

-- several lists, one behind the other
abbrev pub joined : List L → L
joined [] = []
joined (found ∷ more) = found ++ joined more

abbrev pub call_step : of.Call-F L L L L L → L
call_step (of.Property prop values) = []
call_step (of.CollectProperty prop values) = []
call_step (of.Operation operation args) = joined args
call_step (of.Class operation class) = []
call_step (of.Collection operation args) = joined args
call_step (of.Iterator iterator variable body) = body

abbrev pub node_step : of.Node-F L L L L L → L
node_step (of.Number value) = []
node_step (of.Str value) = []
node_step (of.Bool value) = []
node_step of.Null = []
node_step of.Invalid = []
node_step (of.EnumLiteral meta enumeration literal) = []
node_step (of.Variable number) = mentions.Variable number ∷ []
node_step (of.Let variable value body) = value ++ body
node_step (of.Chain first rest) = first ++ joined rest
node_step (of.Not operand) = operand
node_step (of.Negated operand) = operand
node_step (of.Calls part calls) = part ++ joined calls
node_step (of.If condition one other) = condition ++ (one ++ other)
node_step (of.Coll kind elements) = joined elements
node_step (of.Extent model class) = mentions.Extent model ∷ []
node_step (of.Query query args) = mentions.Query query ∷ joined args

abbrev pub typed_step : of.Typed-F L L L L L → L
typed_step t = t.node

abbrev pub infix_step : of.TypedInfix-F L L L L L → L
infix_step l = l.right

abbrev pub postfix_step : of.TypedPostfix-F L L L L L → L
postfix_step p = p.call

abbrev pub mentions_in : Typed → L
mentions_in = fold-Typed L L L L L call_step node_step typed_step infix_step postfix_step

abbrev pub mentions_of_node : Node → L
mentions_of_node = fold-Node L L L L L call_step node_step typed_step infix_step postfix_step

abbrev pub mentions_of_call : Call → L
mentions_of_call = fold-Call L L L L L call_step node_step typed_step infix_step postfix_step

abbrev pub mentions_behind : TypedInfix → L
mentions_behind = fold-TypedInfix L L L L L call_step node_step typed_step infix_step postfix_step

abbrev pub mentions_with : TypedPostfix → L
mentions_with = fold-TypedPostfix L L L L L call_step node_step typed_step infix_step postfix_step

-- ---- the variables among them

-- a variable that is one of the first so many
abbrev pub own_variable : ℕ → Mention → List ℕ
own_variable count (mentions.Variable v) = if nat_lt v count then v ∷ [] else []
own_variable count (mentions.Query q) = []
own_variable count (mentions.Extent m) = []

abbrev pub variables_among : ℕ → List Mention → List ℕ
variables_among count found = flat_map (own_variable count) found

-- the variables of a relation with so many that the expression names
abbrev pub variables_of : ℕ → Typed → List ℕ
variables_of count e = variables_among count (mentions_in e)
