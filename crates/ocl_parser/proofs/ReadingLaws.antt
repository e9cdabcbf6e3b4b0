-- What is told of a reading.
use Rattle.std.proofs.Common.{◌≡◌, ℕ, zero, suc, ◌+◌, ◌-◌, Bool, true, false, List, slice_get, Some, None, Ok, Err, ap, sym, ◌∙◌, refl, subst, arith}
use Rattle.std.specs.Prelude.{codes}
use Rattle.mof_metamodel.specs.declared.span.Span.{Span}
use Rattle.ql_lex.specs.Lexed.{Lexeme, LexedText}
use Rattle.ql_lex.specs.Lexemes.{is_sign, span_at, stands, start_of, end_of}
use Rattle.ql_lex.specs.Symbols.{terminal_of}
use Rattle.ql_lex.specs.declared.symbol.Symbol.{Symbol}
use Rattle.ql_lex.specs.declared.symbol.Symbol.TheVariants as symbols
use Rattle.ql_lex.proofs.TokenLaws.{stands_none, stands_some}
use Rattle.qv_syntax.specs.declared.type_tree.TypeTree.{TypeTree}
use Rattle.qv_syntax.specs.declared.expr.Expr.{Expr}
use Rattle.ocl_parser.specs.Runs.{Answer, Tree, Stuck, Deep, answer}
use Rattle.ocl_parser.specs.Answers.{Answers}
use Rattle.ocl_parser.specs.Readings.{Halts, Read, elements_read, expr_read, halted_at, read_by, type_by, type_read}
use Rattle.ocl_parser.specs.declared.error.ParseError.{ParseError}
use Rattle.ocl_parser.specs.declared.halt.Halt.{Halt}
use Rattle.ocl_parser.specs.declared.halt.Halt.TheVariants as halts
use Rattle.ocl_parser.specs.declared.halt.Stop.{Stop}
use Rattle.ocl_parser.specs.declared.halt.Stop.TheVariants as stops

pub tree_told : (text : LexedText) (a : Answer) (found : Expr × ℕ) → read_by a ≡ Ok found → Answers text a (Ok found)
tree_told text (Tree tree end) found e =
    let both : Expr × ℕ = (tree, end) in
    let same : both ≡ found = cc in
    ap (λ (x : Expr × ℕ). Ok x) same
tree_told text (Stuck at) found e = cc
tree_told text (Deep at) found e = cc

stop_told : (text : LexedText) (a : Answer) (stop : Stop) → read_by a ≡ Err stop → Answers text a (Err (halted_at text (halts.Stop stop)))
stop_told text (Tree tree end) (stops.Stuck k) e = cc
stop_told text (Tree tree end) (stops.Deep k) e = cc
stop_told text (Stuck at) (stops.Stuck k) e = cc
stop_told text (Stuck at) (stops.Deep k) e = cc
stop_told text (Deep at) (stops.Stuck k) e = cc
stop_told text (Deep at) (stops.Deep k) e = cc

pub halt_told : (text : LexedText) (a : Answer) (halt : Halt) → Halts halt (read_by a) → Answers text a (Err (halted_at text halt))
halt_told text a (halts.Stop stop) h = stop_told text a stop h
halt_told text a halts.NoMemory h = tt

pub found_told : (text : LexedText) (levels from : ℕ) (found : Expr × ℕ) → expr_read text.lexemes levels from ≡ Ok found
    → Answers text (answer text.lexemes levels from) (Ok found)
unfolding expr_read
found_told text levels from found e = tree_told text (answer text.lexemes levels from) found e

pub halts_told : (text : LexedText) (levels from : ℕ) (halt : Halt) (error : ParseError) → Halts halt (expr_read text.lexemes levels from) → error ≡ halted_at text halt
    → Answers text (answer text.lexemes levels from) (Err error)
unfolding expr_read
halts_told text levels from halt error h e =
    let P : ParseError → Type 0 = λ x. Answers text (answer text.lexemes levels from) (Err x) in
    subst P (sym e) (halt_told text (answer text.lexemes levels from) halt h)

-- ---- tokens

pub stands_there : (passes : Lexeme → Bool) (ts : List Lexeme) (at : ℕ) (l : Lexeme) → slice_get ts at ≡ Some l → passes l ≡ stands passes ts at
stands_there passes ts at l e = sym (stands_some passes ts at l e)

pub stands_nowhere : (passes : Lexeme → Bool) (ts : List Lexeme) (at : ℕ) → slice_get ts at ≡ None → false ≡ stands passes ts at
stands_nowhere passes ts at e = sym (stands_none passes ts at e)

-- ---- types

no_level : (ts : List Lexeme) (one other : ℕ → Read TypeTree) (i : ℕ) (s : Symbol) (span : Span)
    → type_by ts one 0 i (record { symbol = s; span = span }) ≡ type_by ts other 0 i (record { symbol = s; span = span })
no_level ts one other i (symbols.Kind kind) span = by (stands (is_sign (codes "(")) ts (i + 1)) refl
  where
    by : (b : Bool) → stands (is_sign (codes "(")) ts (i + 1) ≡ b → elements_read ts one 0 i kind ≡ elements_read ts other 0 i kind
    by true e = rw e refl
    by false e = rw e refl
no_level ts one other i s span = refl

-- a type by its first token
pub type_unrolled : (ts : List Lexeme) (levels i : ℕ) → type_by ts (type_read ts (levels - 1)) levels i (terminal_of (slice_get ts i)) ≡ type_read ts levels i
unfolding type_read
type_unrolled ts zero i = no_level ts (type_read ts (0 - 1)) (λ first. Err (stops.Stuck first)) i (terminal_of (slice_get ts i)).symbol (terminal_of (slice_get ts i)).span
type_unrolled ts (suc levels) i =
    let less : suc levels - 1 ≡ levels = omega arith in
    ap (λ (n : ℕ). type_by ts (type_read ts n) (suc levels) i (terminal_of (slice_get ts i))) less

nothing_begins : (ts : List Lexeme) (inner : ℕ → Read TypeTree) (levels i : ℕ) → slice_get ts i ≡ None → type_by ts inner levels i (terminal_of (slice_get ts i)) ≡ Err (stops.Stuck i)
nothing_begins ts inner levels i e = rw e refl

-- behind the last token there is none
pub type_nowhere : (ts : List Lexeme) (levels i : ℕ) → slice_get ts i ≡ None → type_read ts levels i ≡ Err (stops.Stuck i)
type_nowhere ts levels i e = sym (type_unrolled ts levels i) ∙ nothing_begins ts (type_read ts (levels - 1)) levels i e

-- ---- places

pub span_is : (ts : List Lexeme) (from end : ℕ) → record { start = start_of ts from; end = end_of ts (end - 1) } ≡ span_at ts from end
unfolding span_at
span_is ts from end = refl
