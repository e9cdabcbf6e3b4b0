-- What reading an expression answers: the tokens are read one by one, up to the first with which no expression begins.
use Rattle.std.specs.Prelude.{ℕ, ◌+◌, nat_lt, if◌then◌else◌, List, [], ◌∷◌, drop}
use Rattle.ql_lex.specs.Lexed.{Lexeme}
use Rattle.qv_syntax.specs.declared.expr.Expr.{Expr}
use Rattle.ql_lex.specs.Symbols.{symbol_of, nowhere}
use Rattle.ocl_parser.specs.Moves.{move, open_levels, state_levels}
use Rattle.ql_lex.specs.declared.symbol.Symbol.TheVariants as symbols
use Rattle.ocl_parser.specs.declared.frame.Frame.{Frame}
use Rattle.ocl_parser.specs.declared.state.State.{State}
use Rattle.ocl_parser.specs.declared.state.State.TheVariants as states
use Rattle.ocl_parser.specs.declared.state.Action.{Action}
use Rattle.ocl_parser.specs.declared.state.Action.TheVariants as actions

-- an expression that ends before the token of this number, or the number of the token that is refused, or opens too many levels
pub data Answer : Type 0 where
  Tree : (tree : Expr) (end : ℕ) → Answer
  Stuck : (at : ℕ) → Answer
  Deep : (at : ℕ) → Answer

-- behind the last token only the end of the expression is read
abbrev pub ended_by : Action → ℕ → Answer
ended_by (actions.Whole tree) at = Tree tree at
ended_by action at = Stuck at

-- the answer of the tokens behind one that was read, unless that opens too many levels
abbrev pub go_on : ℕ → List Frame → State → ℕ → Answer → Answer
go_on levels stack state at rest = if nat_lt levels (open_levels stack + state_levels state) then Deep at else rest

-- of the tokens from the one of number `at` on, with what was read before them
unfoldable pub run : ℕ → List Lexeme → List Frame → State → ℕ → Answer
run levels [] stack state at = ended_by (move stack state symbols.Other nowhere).action at
run levels (l ∷ ls) stack state at = elim (move stack state (symbol_of l) l.token.span).action [
  | actions.Read next ↦ go_on levels (move stack state (symbol_of l) l.token.span).stack next at (run levels ls (move stack state (symbol_of l) l.token.span).stack next (at + 1))
  | actions.Whole tree ↦ Tree tree at
  | actions.Refused ↦ Stuck at
]

-- the answer for the tokens from the one of this number on
unfoldable pub answer : List Lexeme → ℕ → ℕ → Answer
answer ts levels from = run levels (drop from ts) [] states.Operand from
