-- What an expression of a form is, by its parts.
use Rattle.std.specs.Prelude.{◌≡◌, ℕ, List}
use Rattle.qv_syntax.specs.declared.ty.Ty.{Ty}
use Rattle.qv_syntax.specs.declared.typed.Typed.{fold-roll-Typed}
use Rattle.qv_syntax.specs.declared.typed.Node.{Node, roll-Node, fold-Node, fold-roll-Node}
use Rattle.qv_syntax.specs.declared.typed.Call.TheOpen as of
use Rattle.qvtr_semantics.specs.Objects.{Setting}
use Rattle.qvtr_semantics.specs.Expressions.{Meaning, Operated, Called, Queries, node_meaning, typed_meaning, infix_meaning, call_meaning, postfix_meaning, meaning}

abbrev pub node_of : Setting → Queries → Node → Meaning
node_of s queries = fold-Node Called Meaning Meaning Operated Called (call_meaning s) (node_meaning s queries) typed_meaning infix_meaning postfix_meaning

pub typed_is : (s : Setting) (queries : Queries) (ty : Ty) (node : Node) → meaning s queries (record { ty = ty; node = node }) ≡ node_of s queries node
typed_is s queries ty node = fold-roll-Typed Called Meaning Meaning Operated Called (call_meaning s) (node_meaning s queries) typed_meaning infix_meaning postfix_meaning (record { ty = ty; node = node })

pub variable_is : (s : Setting) (queries : Queries) (number : ℕ) → node_of s queries (roll-Node (of.Variable number)) ≡ node_meaning s queries (of.Variable number)
variable_is s queries number = fold-roll-Node Called Meaning Meaning Operated Called (call_meaning s) (node_meaning s queries) typed_meaning infix_meaning postfix_meaning (of.Variable number)

pub string_is : (s : Setting) (queries : Queries) (text : List ℕ) → node_of s queries (roll-Node (of.Str text)) ≡ node_meaning s queries (of.Str text)
string_is s queries text = fold-roll-Node Called Meaning Meaning Operated Called (call_meaning s) (node_meaning s queries) typed_meaning infix_meaning postfix_meaning (of.Str text)
