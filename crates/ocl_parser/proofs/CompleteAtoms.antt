-- The forms of single tokens, and paths.
use Rattle.std.proofs.Common.{◌≡◌, ℕ, Bool, false, List, [], ◌∷◌, Some, ℤ, ap, refl, subst, arith}
use Rattle.mof_metamodel.specs.declared.span.Span.{Span}
use Rattle.ql_lex.specs.Lexed.{Lexeme}
use Rattle.qv_syntax.specs.declared.name.Name.{Name}
use Rattle.qv_syntax.specs.declared.name.Path.{Path}
use Rattle.qv_syntax.specs.declared.expr.Expr.TheVariants as exprs
use Rattle.qv_syntax.specs.declared.expr.Args.TheOpen as of
use Rattle.ql_lex.specs.Lexemes.{span_at}
use Rattle.ocl_parser.specs.Grammar.{expr_step, path}
use Rattle.ocl_parser.specs.Moves.{move, base_of, path_by, after_path}
use Rattle.ql_lex.specs.declared.symbol.Symbol.{Symbol}
use Rattle.ql_lex.specs.declared.symbol.Symbol.TheVariants as symbols
use Rattle.ocl_parser.specs.declared.frame.Frame.{Frame}
use Rattle.ocl_parser.specs.declared.state.State.TheVariants as states
use Rattle.ocl_parser.proofs.CompletePaths.{path_parts}
use Rattle.ocl_parser.proofs.CompleteTypes.{named_read as path_named_read}
use Rattle.ocl_parser.proofs.CompleteForms.{goes_on, Holds, Reading, atom, one_token}

pub number_read : (ts : List Lexeme) (value : ℤ) (span : Span) → Reading ts (expr_step ts (of.Number value span)) (exprs.Number value span)
unfolding move
number_read ts value span = one_token ts (symbols.Number value) (exprs.Number value) span refl (λ stack at. refl)

pub string_read : (ts : List Lexeme) (value : List ℕ) (span : Span) → Reading ts (expr_step ts (of.Str value span)) (exprs.Str value span)
unfolding move
string_read ts value span = one_token ts (symbols.Str value) (exprs.Str value) span refl (λ stack at. refl)

pub constant_read : (ts : List Lexeme) (value : Bool) (span : Span) → Reading ts (expr_step ts (of.Bool value span)) (exprs.Bool value span)
unfolding move
constant_read ts value span = one_token ts (symbols.Bool value) (exprs.Bool value) span refl (λ stack at. refl)

pub null_read : (ts : List Lexeme) (span : Span) → Reading ts (expr_step ts (of.Null span)) (exprs.Null span)
unfolding move
null_read ts span = one_token ts symbols.Null exprs.Null span refl (λ stack at. refl)

pub invalid_read : (ts : List Lexeme) (span : Span) → Reading ts (expr_step ts (of.Invalid span)) (exprs.Invalid span)
unfolding move
invalid_read ts span = one_token ts symbols.Invalid exprs.Invalid span refl (λ stack at. refl)

-- ---- paths

held_by : (ns : List Name) (stack : List Frame) (p : Path) (s : Symbol) (span : Span) → goes_on s ≡ false → path_by ns stack p s span ≡ after_path stack p s span
held_by [] stack p symbols.OpenParenthesis span e = cc
held_by [] stack p symbols.DoubleColon span e = cc
held_by [] stack p s span e = refl
held_by (x ∷ []) stack p symbols.OpenParenthesis span e = cc
held_by (x ∷ []) stack p symbols.DoubleColon span e = cc
held_by (x ∷ []) stack p s span e = refl
held_by (x ∷ y ∷ ns) stack p symbols.OpenParenthesis span e = cc
held_by (x ∷ y ∷ ns) stack p symbols.DoubleColon span e = cc
held_by (x ∷ y ∷ ns) stack p s span e = refl

pub held_path : (stack : List Frame) (p : Path) → Holds stack (states.Path p) (base_of (exprs.Named p) p.span)
unfolding move
held_path stack p s span e = held_by p.names stack p s span e

path_at : (ts : List Lexeme) (most : ℕ) (p : Path) (n i j : ℕ) → path ts most p n i ≡ Some j → p.span ≡ span_at ts i j
path_at ts most p n i j e = ap (λ (q : Path). q.span) (path_parts ts most p n i j e).is

pub named_read : (ts : List Lexeme) (p : Path) → Reading ts (expr_step ts (of.Named p)) (exprs.Named p)
unfolding move
named_read ts p levels n i j stack fit few e =
    let r = path_named_read levels ts stack p n i j (omega arith) e in
    atom levels ts (exprs.Named p) stack i j (states.Path p) r.0 r.1
    (subst (λ (s : Span). Holds stack (states.Path p) (base_of (exprs.Named p) s)) (path_at ts 3 p n i j e) (held_path stack p))
