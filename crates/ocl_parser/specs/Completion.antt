-- How tokens that begin an expression go on to a whole one: what ends all that is open.
use Rattle.std.specs.Prelude.{◌≡◌, ℕ, ◌+◌, Bool, true, false, ◌&&◌, nat_lt, if◌then◌else◌, List, [], ◌∷◌, ◌++◌, length, drop, take, Option, Some, None, codes}
use Rattle.ql_lex.specs.declared.token.TokenKind.{TokenKind}
use Rattle.ql_lex.specs.declared.token.TokenKind.TheVariants as kinds
use Rattle.ql_lex.specs.Lexed.{Lexeme}
use Rattle.qv_syntax.specs.declared.expr.Expr.{Expr}
use Rattle.ql_lex.specs.Symbols.{symbol_of}
use Rattle.ocl_parser.specs.Moves.{move, open_levels, state_levels}
use Rattle.ocl_parser.specs.Runs.{Tree, run}
use Rattle.ql_lex.specs.Symbols.{nowhere}
use Rattle.ocl_parser.specs.declared.frame.Frame.{Frame}
use Rattle.ocl_parser.specs.declared.frame.Frame.TheVariants as frames
use Rattle.ocl_parser.specs.declared.state.State.{State}
use Rattle.ocl_parser.specs.declared.state.State.TheVariants as states
use Rattle.ocl_parser.specs.declared.state.Action.TheVariants as actions

-- ---- what was read

-- the open constructs, and what may come next
pub record Reading : Type 0 where
  pub stack : List Frame
  pub state : State

-- what all these tokens, behind what was read before them, make of it, if all are read
unfoldable pub reads : ℕ → List Lexeme → List Frame → State → Option Reading
reads levels [] stack state = Some (record { stack = stack; state = state })
reads levels (l ∷ ls) stack state = elim (move stack state (symbol_of l) l.token.span).action [
  | actions.Read next ↦ if nat_lt levels (open_levels (move stack state (symbol_of l) l.token.span).stack + state_levels next) then None
      else reads levels ls (move stack state (symbol_of l) l.token.span).stack next
  | actions.Whole tree ↦ None
  | actions.Refused ↦ None
]

-- the tokens before number k are read from the one of number `from` on
abbrev pub Reaches : List Lexeme → ℕ → ℕ → ℕ → Reading → Type 0
Reaches ts levels from k reading = reads levels (drop from (take k ts)) [] states.Operand ≡ Some reading

-- ---- which constructs stand below which state

-- a construct in which expressions are read
abbrev pub holds_expressions : Frame → Bool
holds_expressions (frames.LetType start name) = false
holds_expressions (frames.VariableType it) = false
holds_expressions (frames.OfKind start kind) = false
holds_expressions frame = true

abbrev pub are_expressions : List Frame → Bool
are_expressions [] = true
are_expressions (frame ∷ stack) = holds_expressions frame && are_expressions stack

-- a type is read, of a variable and inside so many collections
abbrev pub is_type : List Frame → Bool
is_type [] = false
is_type (frames.LetType start name ∷ stack) = are_expressions stack
is_type (frames.VariableType it ∷ stack) = are_expressions stack
is_type (frames.OfKind start kind ∷ stack) = is_type stack
is_type (frame ∷ stack) = false

abbrev pub is_open : List Frame → State → Bool
is_open stack states.Type = is_type stack
is_open stack (states.TypeParenthesis start kind) = is_type stack
is_open stack (states.TypePath path) = is_type stack
is_open stack (states.TypeName path) = is_type stack
is_open stack (states.TypeEnd ty) = is_type stack
is_open stack state = are_expressions stack

-- ---- what ends it

abbrev pub lexeme : TokenKind → List ℕ → Lexeme
lexeme kind text = record { token = record { kind = kind; span = nowhere }; text = text }

abbrev pub reserved : List ℕ → Lexeme
reserved text = lexeme kinds.Reserved text

abbrev pub mark : List ℕ → Lexeme
mark text = lexeme kinds.Sign text

abbrev pub null : Lexeme
null = reserved (codes "null")

abbrev pub some_name : Lexeme
some_name = lexeme kinds.Name (codes "a")

abbrev pub closes : Lexeme
closes = mark (codes ")")

-- what ends the open constructs behind an operand, or behind a type
unfoldable pub closing : List Frame → List Lexeme
closing [] = []
closing (frames.LetType start name ∷ stack) = mark (codes "=") ∷ null ∷ reserved (codes "in") ∷ null ∷ closing stack
closing (frames.Let start name ty ∷ stack) = reserved (codes "in") ∷ null ∷ closing stack
closing (frames.In start name ty value ∷ stack) = closing stack
closing (frames.Not start ∷ stack) = closing stack
closing (frames.Negated start ∷ stack) = closing stack
closing (frames.Row first rest operator ∷ stack) = closing stack
closing (frames.Parens start ∷ stack) = closes ∷ closing stack
closing (frames.If start ∷ stack) = reserved (codes "then") ∷ null ∷ reserved (codes "else") ∷ null ∷ reserved (codes "endif") ∷ closing stack
closing (frames.Then start condition ∷ stack) = reserved (codes "else") ∷ null ∷ reserved (codes "endif") ∷ closing stack
closing (frames.Else start condition one ∷ stack) = reserved (codes "endif") ∷ closing stack
closing (frames.Elements start kind elements ∷ stack) = mark (codes "}") ∷ closing stack
closing (frames.Arguments called values ∷ stack) = closes ∷ closing stack
closing (frames.VariableType it ∷ stack) = mark (codes "|") ∷ null ∷ closes ∷ closing stack
closing (frames.Body it ty ∷ stack) = closes ∷ closing stack
closing (frames.OfKind start kind ∷ stack) = closes ∷ closing stack

-- what ends the type and the head of a `let`
abbrev pub let_head : List Lexeme
let_head = mark (codes ":") ∷ reserved (codes "String") ∷ mark (codes "=") ∷ null ∷ reserved (codes "in") ∷ null ∷ []

-- what ends an operand or a type in this state
abbrev pub ending : State → List Lexeme
ending states.Operand = null ∷ []
ending (states.After base) = []
ending (states.Path path) = []
ending (states.PathName path) = some_name ∷ []
ending (states.LetName start) = some_name ∷ let_head
ending (states.LetColon start name) = let_head
ending states.Type = reserved (codes "String") ∷ []
ending (states.TypeParenthesis start kind) = mark (codes "(") ∷ reserved (codes "String") ∷ closes ∷ []
ending (states.TypePath path) = []
ending (states.TypeName path) = some_name ∷ []
ending (states.TypeEnd ty) = []
ending (states.Brace start kind) = mark (codes "{") ∷ mark (codes "}") ∷ []
ending (states.DotName base start) = some_name ∷ []
ending (states.Dotted base start name) = []
ending (states.ArrowName base start) = some_name ∷ mark (codes "(") ∷ some_name ∷ closes ∷ []
ending (states.ArrowParenthesis base start name) = mark (codes "(") ∷ some_name ∷ closes ∷ []
ending (states.ArrowFirst base start name) = some_name ∷ closes ∷ []
ending (states.ArrowSecond it) = closes ∷ []
ending (states.ClassName called) = some_name ∷ closes ∷ []
ending (states.ClassPath called path) = closes ∷ []
ending (states.ClassNext called path) = some_name ∷ closes ∷ []

abbrev pub completion : List Frame → State → List Lexeme
completion stack state = ending state ++ closing stack

-- the states behind which a level has to be opened
abbrev pub opening_levels : State → ℕ
opening_levels (states.TypeParenthesis start kind) = 1
opening_levels (states.Brace start kind) = 1
opening_levels (states.ArrowName base start) = 1
opening_levels (states.ArrowParenthesis base start name) = 1
opening_levels state = 0

-- the levels that the whole takes at least
abbrev pub needed_levels : List Frame → State → ℕ
needed_levels stack state = open_levels stack + state_levels state + opening_levels state

-- these tokens, behind what was read before them, end an expression
pub record Ends (levels : ℕ) (more : List Lexeme) (stack : List Frame) (state : State) (at : ℕ) : Type 0 where
  pub tree : Expr
  pub ends : run levels more stack state at ≡ Tree tree (at + length more)
