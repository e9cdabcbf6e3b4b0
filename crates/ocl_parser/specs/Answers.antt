-- What the parser answers, and its steps, as they are stated of the code.
use Rattle.std.specs.Prelude.{◌≡◌, ℕ, ◌+◌, ◌==◌, nat_le, Bool, true, false, List, drop, Option, Some, None, Result, Ok, Err}
use Rattle.ql_lex.specs.Lexed.{Lexeme, LexedText}
use Rattle.qv_syntax.specs.declared.expr.Expr.{Expr}
use Rattle.qv_syntax.specs.declared.expr.Expr.TheVariants as exprs
use Rattle.qv_syntax.specs.Operators.{level_of}
use Rattle.ocl_parser.specs.Moves.{Move, Reduced, chained, from_to}
use Rattle.ocl_parser.specs.Beginnings.{IsTree, IsStuck, IsDeep}
use Rattle.ocl_parser.specs.Places.{place_of}
use Rattle.ocl_parser.specs.Readings.{Gives, read_by}
use Rattle.ocl_parser.specs.declared.halt.Halt.{Halt}
use Rattle.ocl_parser.specs.Runs.{Answer, go_on, run, Tree, Stuck, Deep}
use Rattle.ocl_parser.specs.declared.error.ParseError.{ParseError}
use Rattle.ocl_parser.specs.declared.error.ParseError.TheVariants as errors
use Rattle.ocl_parser.specs.declared.frame.Subtree.{Subtree}
use Rattle.ocl_parser.specs.declared.frame.Frame.{Frame}
use Rattle.ocl_parser.specs.declared.frame.Frame.TheVariants as frames
use Rattle.ocl_parser.specs.declared.state.State.{State}
use Rattle.ocl_parser.specs.declared.state.Action.{Action}
use Rattle.ocl_parser.specs.declared.state.Action.TheVariants as actions

-- the stack and the action that a move left
abbrev pub made : List Frame → Action → Move
made stack action = record { stack = stack; action = action }

-- the stack and the part that are left
abbrev pub left : List Frame → Subtree → Reduced
left stack subtree = record { stack = stack; subtree = subtree }

-- whether a construct ends before an operator of the level below this one
abbrev pub ends : ℕ → Frame → Bool
ends level (frames.Not start) = true
ends level (frames.Negated start) = true
ends level (frames.Row first rest operator) = nat_le level (level_of operator)
ends level (frames.In start name ty value) = level == 0
ends level frame = false

-- the construct with its last part
abbrev pub wrapped : Frame → Subtree → Subtree
wrapped (frames.Not start) subtree = record { tree = exprs.Not subtree.tree (from_to start subtree.span.end); span = from_to start subtree.span.end }
wrapped (frames.Negated start) subtree = record { tree = exprs.Negated subtree.tree (from_to start subtree.span.end); span = from_to start subtree.span.end }
wrapped (frames.Row first rest operator) subtree = chained first rest operator subtree
wrapped (frames.In start name ty value) subtree = record { tree = exprs.Let name ty value subtree.tree (from_to start subtree.span.end); span = from_to start subtree.span.end }
wrapped frame subtree = subtree

abbrev pub result_of : LexedText → Answer → Result (Expr × ℕ) ParseError
result_of text (Tree tree end) = Ok (tree, end)
result_of text (Stuck at) = Err (errors.Parse (place_of text at))
result_of text (Deep at) = Err (errors.Limit (place_of text at))

-- this is answered, unless memory could not be had
abbrev pub IsAnswered : Result (Expr × ℕ) ParseError → Result (Expr × ℕ) ParseError → Type 0
IsAnswered expected (Err errors.NoMemory) = Unit {0}
IsAnswered expected result = expected ≡ result

-- the same of what the automaton answers
abbrev pub Answers : LexedText → Answer → Result (Expr × ℕ) ParseError → Type 0
Answers text expected result = IsAnswered (result_of text expected) result

-- the answer by what the token of this number made
abbrev pub step_answer : ℕ → List Lexeme → ℕ → Move → Answer
step_answer levels behind at m = elim m.action [
  | actions.Read next ↦ go_on levels m.stack next at (run levels behind m.stack next (at + 1))
  | actions.Whole tree ↦ Tree tree at
  | actions.Refused ↦ Stuck at
]

-- the token before this number was read, and what stands from there on has the answer, or this is the answer
abbrev pub Passed : LexedText → ℕ → ℕ → List Frame → State → Answer → Option (Result (Expr × ℕ) Halt) → Type 0
Passed text levels at stack state expected None = run levels (drop at text.lexemes) stack state at ≡ expected
Passed text levels at stack state expected (Some result) = Gives result (read_by expected)

-- What is answered is what stands: the longest list of tokens with which an expression begins is one, or is none, or nests
-- too deep; unless memory could not be had.
abbrev pub Tells : LexedText → ℕ → ℕ → Result (Expr × ℕ) ParseError → Type 0
Tells text from levels (Ok found) = IsTree text.lexemes from levels found.0 found.1
Tells text from levels (Err (errors.Parse at)) = (k : ℕ) × IsStuck text.lexemes from levels k × (at ≡ place_of text k)
Tells text from levels (Err (errors.Limit at)) = (k : ℕ) × IsDeep text.lexemes from levels k × (at ≡ place_of text k)
Tells text from levels (Err errors.NoMemory) = Unit {0}
