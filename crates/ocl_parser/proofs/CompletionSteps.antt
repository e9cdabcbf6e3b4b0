-- One token more, and what the tokens are that end what is open.
use Rattle.std.proofs.Common.{◌≡◌, ℕ, ◌+◌, ◌≤◌, false, nat_lt, List, ◌∷◌, length, ap, ◌∙◌, refl, arith}
use Rattle.std.specs.Prelude.{codes}
use Rattle.std.proofs.lemmas.Bool.Decides.{nat_tests}
use Rattle.ql_lex.specs.Lexed.{Lexeme}
use Rattle.qv_syntax.specs.declared.operator.Operator.TheVariants as operators
use Rattle.ql_lex.specs.Symbols.{symbol_of, symbol_among}
use Rattle.ocl_parser.specs.Moves.{Move, move, to, open_levels, state_levels}
use Rattle.ocl_parser.specs.Runs.{Answer, Tree, Stuck, run, go_on}
use Rattle.ocl_parser.specs.Completion.{Ends, reserved, mark, null, closes}
use Rattle.ql_lex.specs.declared.symbol.Symbol.{Symbol}
use Rattle.ql_lex.specs.declared.symbol.Symbol.TheVariants as symbols
use Rattle.ql_lex.specs.declared.symbol.PlainType.TheVariants as plain
use Rattle.ocl_parser.specs.declared.frame.Frame.{Frame}
use Rattle.ocl_parser.specs.declared.state.State.{State}
use Rattle.ocl_parser.specs.declared.state.Action.TheVariants as actions

pub is_null : symbol_of null ≡ symbols.Null
unfolding symbol_of symbol_among
is_null = refl

pub is_in : symbol_of (reserved (codes "in")) ≡ symbols.In
unfolding symbol_of symbol_among
is_in = refl

pub is_then : symbol_of (reserved (codes "then")) ≡ symbols.Then
unfolding symbol_of symbol_among
is_then = refl

pub is_else : symbol_of (reserved (codes "else")) ≡ symbols.Else
unfolding symbol_of symbol_among
is_else = refl

pub is_endif : symbol_of (reserved (codes "endif")) ≡ symbols.Endif
unfolding symbol_of symbol_among
is_endif = refl

pub is_string : symbol_of (reserved (codes "String")) ≡ symbols.Plain plain.Str
unfolding symbol_of symbol_among
is_string = refl

pub is_closing : symbol_of closes ≡ symbols.CloseParenthesis
unfolding symbol_of symbol_among
is_closing = refl

pub is_open_parenthesis : symbol_of (mark (codes "(")) ≡ symbols.OpenParenthesis
unfolding symbol_of symbol_among
is_open_parenthesis = refl

pub is_open_brace : symbol_of (mark (codes "{")) ≡ symbols.OpenBrace
unfolding symbol_of symbol_among
is_open_brace = refl

pub is_close_brace : symbol_of (mark (codes "}")) ≡ symbols.CloseBrace
unfolding symbol_of symbol_among
is_close_brace = refl

pub is_colon : symbol_of (mark (codes ":")) ≡ symbols.Colon
unfolding symbol_of symbol_among
is_colon = refl

pub is_bar : symbol_of (mark (codes "|")) ≡ symbols.Bar
unfolding symbol_of symbol_among
is_bar = refl

pub is_equal : symbol_of (mark (codes "=")) ≡ symbols.Operator operators.Equal
unfolding symbol_of symbol_among
is_equal = refl

-- what comes of a token by what it does
abbrev pub by_move : ℕ → List Lexeme → ℕ → Move → Answer
by_move levels ls at m = elim m.action [
  | actions.Read next ↦ go_on levels m.stack next at (run levels ls m.stack next (at + 1))
  | actions.Whole tree ↦ Tree tree at
  | actions.Refused ↦ Stuck at
]

pub run-step : (levels at : ℕ) (stack : List Frame) (state : State) (l : Lexeme) (ls : List Lexeme)
    → run levels (l ∷ ls) stack state at ≡ by_move levels ls at (move stack state (symbol_of l) l.token.span)
unfolding run
run-step levels at stack state l ls = refl

-- one token that is read, and those behind it
pub step : (levels at : ℕ) (whole : List Frame) (state : State) (l : Lexeme) (ls : List Lexeme) (symbol : Symbol) (stack : List Frame) (next : State) → symbol_of l ≡ symbol
    → move whole state symbol l.token.span ≡ to stack next → open_levels stack + state_levels next ≤ levels → Ends levels ls stack next (at + 1) → Ends levels (l ∷ ls) whole state at
step levels at whole state l ls symbol stack next is e fits rest =
    let m : move whole state (symbol_of l) l.token.span ≡ to stack next = ap (λ (y : Symbol). move whole state y l.token.span) is ∙ e in
    let small : nat_lt levels (open_levels stack + state_levels next) ≡ false = grind (arith, nat_tests) in
    let here : at + 1 + length ls ≡ at + length (l ∷ ls) = omega arith in
    let goes : by_move levels ls at (to stack next) ≡ Tree rest.tree (at + length (l ∷ ls)) = rw small (rest.ends ∙ ap (Tree rest.tree) here) in
    record { tree = rest.tree; ends = run-step levels at whole state l ls ∙ ap (by_move levels ls at) m ∙ goes }
