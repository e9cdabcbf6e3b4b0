-- Readings: what stands from a token on, with the number of the token behind it, or where it stops.
use Rattle.std.specs.Prelude.{◌≡◌, ℕ, zero, suc, ◌+◌, ◌==◌, Bool, if◌then◌else◌, List, slice_get, Option, Some, None, Result, Ok, Err, codes}
use Rattle.qv_syntax.specs.declared.expr.Expr.{Expr}
use Rattle.qv_syntax.specs.declared.name.Name.{Name}
use Rattle.qv_syntax.specs.declared.name.Path.{Path}
use Rattle.qv_syntax.specs.declared.type_tree.Kind.{Kind}
use Rattle.qv_syntax.specs.declared.type_tree.TypeTree.{TypeTree}
use Rattle.qv_syntax.specs.declared.type_tree.TypeTree.TheVariants as types
use Rattle.ql_lex.specs.Lexed.{Lexeme, LexedText}
use Rattle.ql_lex.specs.Lexemes.{is_sign, is_word, name_text, span_at, stands}
use Rattle.ql_lex.specs.Symbols.{terminal_of}
use Rattle.ql_lex.specs.declared.symbol.Symbol.TheVariants as symbols
use Rattle.ql_lex.specs.declared.symbol.Terminal.{Terminal}
use Rattle.ocl_parser.specs.Moves.{extended, path_of, plain_type}
use Rattle.ocl_parser.specs.Runs.{Answer, Tree, Stuck, Deep, answer}
use Rattle.ocl_parser.specs.declared.error.ParseError.{ParseError}
use Rattle.ocl_parser.specs.declared.error.ParseError.TheVariants as errors
use Rattle.ocl_parser.specs.declared.halt.Halt.{Halt}
use Rattle.ocl_parser.specs.declared.halt.Halt.TheVariants as halts
use Rattle.ocl_parser.specs.declared.halt.Stop.{Stop}
use Rattle.ocl_parser.specs.declared.halt.Stop.TheVariants as stops
use Rattle.ocl_parser.specs.Places.{place_of}

-- a value, and the number of the token behind what spells it
abbrev pub Read : Type 0 → Type 0
Read A = Result (A × ℕ) Stop

-- a halt is the stop that is meant, unless memory ran out
abbrev pub Halts : {X : Type 0} → Halt → Result X Stop → Type 0
Halts (halts.Stop stop) meaning = meaning ≡ Err stop
Halts halts.NoMemory meaning = Unit {0}

-- what a function returned is what is meant, unless memory ran out
abbrev pub Gives : {X : Type 0} → Result X Halt → Result X Stop → Type 0
Gives (Ok x) meaning = meaning ≡ Ok x
Gives (Err halt) meaning = Halts halt meaning

-- one reading and, behind what it found, another
abbrev pub and_then : {X Y : Type 0} → Result X Stop → (X → Result Y Stop) → Result Y Stop
and_then (Ok x) next = next x
and_then (Err stop) next = Err stop

-- what an answer reads
abbrev pub read_by : Answer → Read Expr
read_by (Tree tree end) = Ok (tree, end)
read_by (Stuck at) = Err (stops.Stuck at)
read_by (Deep at) = Err (stops.Deep at)

-- an expression from the token of this number on, with so many levels left
unfoldable pub expr_read : List Lexeme → ℕ → ℕ → Read Expr
expr_read ts levels from = read_by (answer ts levels from)

-- what is told of a halt
abbrev pub halted_at : LexedText → Halt → ParseError
halted_at text (halts.Stop (stops.Stuck at)) = errors.Parse (place_of text at)
halted_at text (halts.Stop (stops.Deep at)) = errors.Limit (place_of text at)
halted_at text halts.NoMemory = errors.NoMemory

-- ---- single tokens

-- a token that passes the test; behind it the next one
abbrev pub token_read : (Lexeme → Bool) → List Lexeme → ℕ → Result ℕ Stop
token_read passes ts at = if stands passes ts at then Ok (at + 1) else Err (stops.Stuck at)

abbrev pub sign_read : List Lexeme → List ℕ → ℕ → Result ℕ Stop
sign_read ts text at = token_read (is_sign text) ts at

abbrev pub word_read : List Lexeme → List ℕ → ℕ → Result ℕ Stop
word_read ts text at = token_read (is_word text) ts at

-- a sign that opens a level
abbrev pub opening_read : List Lexeme → List ℕ → ℕ → ℕ → Result ℕ Stop
opening_read ts text levels at =
    if stands (is_sign text) ts at then (if levels == 0 then Err (stops.Deep at) else Ok (at + 1)) else Err (stops.Stuck at)

-- the name that a token is
abbrev pub name_by : Lexeme → ℕ → Option (List ℕ) → Read Name
name_by l at (Some text) = Ok (record { text = text; span = l.token.span }, at + 1)
name_by l at None = Err (stops.Stuck at)

abbrev pub name_at : ℕ → Option Lexeme → Read Name
name_at at (Some l) = name_by l at (name_text l.token.kind l.text)
name_at at None = Err (stops.Stuck at)

-- a name
unfoldable pub name_read : List Lexeme → ℕ → Read Name
name_read ts at = name_at at (slice_get ts at)

-- ---- paths and types

-- behind the first name of a path: one more, where `::` follows
abbrev pub path_behind : List Lexeme → Name × ℕ → Read Path
path_behind ts first = if stands (is_sign (codes "::")) ts first.1
    then and_then (name_read ts (first.1 + 1)) (λ second. Ok (extended (path_of first.0) second.0, second.1))
    else Ok (path_of first.0, first.1)

-- a class, as `C` or `M::C`
unfoldable pub path_read : List Lexeme → ℕ → Read Path
path_read ts at = and_then (name_read ts at) (path_behind ts)

-- behind the word of a kind of collections: the type of the elements in parentheses
abbrev pub elements_read : List Lexeme → (ℕ → Read TypeTree) → ℕ → ℕ → Kind → Read TypeTree
elements_read ts inner levels at kind = and_then (opening_read ts (codes "(") levels (at + 1))
    (λ first. and_then (inner first) (λ t. and_then (sign_read ts (codes ")") t.1) (λ end. Ok (types.Coll kind t.0 (span_at ts at end), end))))

abbrev pub type_by : List Lexeme → (ℕ → Read TypeTree) → ℕ → ℕ → Terminal → Read TypeTree
type_by ts inner levels at terminal = elim terminal.symbol [
  | symbols.Plain ty ↦ Ok (plain_type ty terminal.span, at + 1)
  | symbols.Kind kind ↦ elements_read ts inner levels at kind
  | symbols.Name name ↦ and_then (path_read ts at) (λ p. Ok (types.Named p.0, p.1))
  | symbol ↦ Err (stops.Stuck at)
]

-- a type where so many levels of nesting are left, none inside a collection where there are none
unfoldable pub type_read : List Lexeme → ℕ → ℕ → Read TypeTree
type_read ts zero at = type_by ts (λ first. Err (stops.Stuck first)) 0 at (terminal_of (slice_get ts at))
type_read ts (suc levels) at = type_by ts (type_read ts levels) (suc levels) at (terminal_of (slice_get ts at))
