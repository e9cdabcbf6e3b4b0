-- The tokens of an expression lead to it: what is shown of each form, and the forms that hold single expressions.
use Rattle.std.proofs.Common.{◌≡◌, ℕ, ◌+◌, ◌<◌, ◌≤◌, Bool, true, false, List, ◌∷◌, Some, ap, sym, ◌∙◌, refl, subst, arith}
use Rattle.std.specs.Prelude.{codes}
use Rattle.mof_metamodel.specs.declared.span.Span.{Span}
use Rattle.ql_lex.specs.Lexed.{Lexeme}
use Rattle.qv_syntax.specs.Operators.{level_of}
use Rattle.qv_syntax.specs.declared.expr.Expr.{Expr, roll-Expr, map-Expr, fold-roll-Expr}
use Rattle.qv_syntax.specs.declared.expr.Expr.TheVariants as exprs
use Rattle.qv_syntax.specs.declared.expr.Infix.{Infix}
use Rattle.qv_syntax.specs.declared.expr.Postfix.{Postfix}
use Rattle.qv_syntax.specs.declared.expr.Args.{Args}
use Rattle.qv_syntax.specs.declared.expr.Args.TheOpen as of
use Rattle.ocl_parser.specs.Pieces.{Piece, ◌▸◌, token, sign, nested, spanned}
use Rattle.ql_lex.specs.Lexemes.{is_sign, span_at}
use Rattle.ocl_parser.specs.Grammar.{Form, InfixForm, Given, form, infix_form, postfix_piece, given, args_step, expr_step, postfix_step, infix_step}
use Rattle.ocl_parser.specs.Moves.{move, behind_base, base_of, subtree_of, Reduced, reduced, closed, after, open_levels}
use Rattle.ql_lex.specs.declared.symbol.Symbol.{Symbol}
use Rattle.ql_lex.specs.declared.symbol.Symbol.TheVariants as symbols
use Rattle.ocl_parser.specs.declared.frame.Subtree.{Subtree}
use Rattle.ocl_parser.specs.declared.frame.Base.{Base}
use Rattle.ocl_parser.specs.declared.frame.Frame.{Frame}
use Rattle.ocl_parser.specs.declared.frame.Frame.TheVariants as frames
use Rattle.ocl_parser.specs.declared.state.State.{State}
use Rattle.ocl_parser.specs.declared.state.State.TheVariants as states
use Rattle.ocl_parser.proofs.SymbolLaws.{test_of, is_told}
use Rattle.ocl_parser.proofs.CompleteRuns.{going, step}
use Rattle.ocl_parser.proofs.CompletePieces.{taken, at_span, within, bracketed}

-- the symbols that may go on with a path, and with a name that is called
abbrev pub goes_on : Symbol → Bool
goes_on symbols.OpenParenthesis = true
goes_on symbols.DoubleColon = true
goes_on s = false

-- a state is behind a part that binds tightest, with these calls on it
abbrev pub Holds : List Frame → State → Base → Type 0
Holds stack state base = (s : Symbol) (span : Span) → goes_on s ≡ false → move stack state s span ≡ after stack base s span

abbrev pub part_from_to : List Lexeme → Expr → ℕ → ℕ → Subtree
part_from_to ts e i j = record { tree = e; span = span_at ts i j }

-- The tokens from number i to j are read as the expression: at the end stands a state behind a part, with which all
-- that ends before an operator looser than the expression is as with the expression itself.
pub record Reads (levels : ℕ) (ts : List Lexeme) (e : Expr) (binding : ℕ) (stack : List Frame) (i j : ℕ) : Type 0 where
  pub on : List Frame
  pub state : State
  pub base : Base
  pub further : i < j
  pub runs : going levels ts stack states.Operand i ≡ going levels ts on state j
  pub holds : Holds on state base
  pub reduces : (m : ℕ) → m ≤ binding → reduced m on (subtree_of base) ≡ reduced m stack (part_from_to ts e i j)
  pub tight : 10 ≤ binding → (on ≡ stack) × (base ≡ base_of e (span_at ts i j))

-- an expression that binds so tightly may stand behind the innermost open construct
abbrev pub Fits : ℕ → List Frame → Type 0
Fits binding (frames.Row first rest operator ∷ stack) = level_of operator < binding
Fits binding (frames.Not start ∷ stack) = 8 ≤ binding
Fits binding (frames.Negated start ∷ stack) = 8 ≤ binding
Fits binding stack = Unit {0}

-- the tokens of the piece are read as the expression
abbrev pub ReadsBy : List Lexeme → ℕ → Piece → Expr → Type 0
ReadsBy ts binding p e = (levels n i j : ℕ) (stack : List Frame) → Fits binding stack → open_levels stack + n ≤ levels → p n i ≡ Some j
    → Reads levels ts e binding stack i j

abbrev pub Reading : List Lexeme → Form → Expr → Type 0
Reading ts f e = ReadsBy ts f.binding f.piece e

abbrev pub IsRead : List Lexeme → Expr → Type 0
IsRead ts e = Reading ts (form ts e) e

pub rolled : (ts : List Lexeme) (d : of.Expr-F Args Expr Postfix Infix) (e : Expr) → roll-Expr d ≡ e
    → Reading ts (expr_step ts (map-Expr Args Expr Postfix Infix Given Form Piece InfixForm (given ts) (form ts) (postfix_piece ts) (infix_form ts) d)) e → IsRead ts e
rolled ts d e h = subst (λ (f : Form). Reading ts f e)
    (sym (ap (form ts) (sym h) ∙ fold-roll-Expr Given Form Piece InfixForm (args_step ts) (expr_step ts) (postfix_step ts) (infix_step ts) d))

-- a form that begins and ends where its span says
pub by_span : (ts : List Lexeme) (binding : ℕ) (tree : Span → Expr) (span : Span) (p : Piece)
    → ((levels n i j : ℕ) (stack : List Frame) → Fits binding stack → open_levels stack + n ≤ levels → p n i ≡ Some j
    → Reads levels ts (tree (span_at ts i j)) binding stack i j)
    → ReadsBy ts binding (spanned ts span p) (tree span)
by_span ts binding tree span p h levels n i j stack fit few e =
    let a = at_span ts span p n i j e in
    subst (λ (s : Span). Reads levels ts (tree s) binding stack i j) (sym a.1) (h levels n i j stack fit few a.0)

-- a part that binds tightest
pub atom : (levels : ℕ) (ts : List Lexeme) (e : Expr) (stack : List Frame) (i j : ℕ) (state : State) → i < j
    → going levels ts stack states.Operand i ≡ going levels ts stack state j
    → Holds stack state (base_of e (span_at ts i j)) → Reads levels ts e 10 stack i j
atom levels ts e stack i j state further runs holds = record {
  on = stack;
  state = state;
  base = base_of e (span_at ts i j);
  further = further;
  runs = runs;
  holds = holds;
  reduces = λ m h. refl;
  tight = λ h. (refl, refl);
}

pub held_after : (stack : List Frame) (base : Base) → Holds stack (states.After base) base
unfolding move
held_after stack base s span e = refl

-- one token
pub one_token : (ts : List Lexeme) (s : Symbol) (tree : Span → Expr) (span : Span) → is_told s ≡ true
    → ((stack : List Frame) (at : Span) → move stack states.Operand s at ≡ behind_base stack (tree at) at)
    → ReadsBy ts 10 (spanned ts span (token (test_of s) ts)) (tree span)
one_token ts s tree span told m = by_span ts 10 tree span (token (test_of s) ts) (λ levels n i j stack fit few e.
    let b = taken (test_of s) ts n i j e in
    let at : Span = span_at ts i (i + 1) in
    let one = step levels ts s i stack stack states.Operand (states.After (base_of (tree at) at)) told b.0 (m stack at) (omega (arith, few)) in
    subst (λ (k : ℕ). Reads levels ts (tree (span_at ts i k)) 10 stack i k) (sym b.1)
    (atom levels ts (tree at) stack i (i + 1) (states.After (base_of (tree at) at)) (omega arith) one (held_after stack (base_of (tree at) at))))

-- ---- symbols behind an expression

abbrev pub closes : Symbol → Bool
closes symbols.In = true
closes symbols.Then = true
closes symbols.Else = true
closes symbols.Endif = true
closes symbols.CloseParenthesis = true
closes symbols.CloseBrace = true
closes symbols.Comma = true
closes symbols.Other = true
closes s = false

closing_of : (s : Symbol) → closes s ≡ true → (stack : List Frame) (base : Base) (span : Span)
    → (goes_on s ≡ false) × (after stack base s span ≡ closed (reduced 0 stack (subtree_of base)) s span)
closing_of symbols.In e stack base span = (refl, refl)
closing_of symbols.Then e stack base span = (refl, refl)
closing_of symbols.Else e stack base span = (refl, refl)
closing_of symbols.Endif e stack base span = (refl, refl)
closing_of symbols.CloseParenthesis e stack base span = (refl, refl)
closing_of symbols.CloseBrace e stack base span = (refl, refl)
closing_of symbols.Comma e stack base span = (refl, refl)
closing_of symbols.Other e stack base span = (refl, refl)
closing_of s e stack base span = cc

pub closing_at : (stack : List Frame) (state : State) (base : Base) (x : Reduced) (s : Symbol) (span : Span) → Holds stack state base
    → reduced 0 stack (subtree_of base) ≡ x → closes s ≡ true → move stack state s span ≡ closed x s span
closing_at stack state base x s span h e c =
    let a = closing_of s c stack base span in
    h s span a.0 ∙ a.1 ∙ ap (λ y. closed y s span) e

-- what comes of such a symbol is as with the expression itself
pub closing : (levels : ℕ) (ts : List Lexeme) (e : Expr) (binding : ℕ) (stack : List Frame) (i j : ℕ) (r : Reads levels ts e binding stack i j) (s : Symbol)
    (span : Span) → closes s ≡ true
    → move r.on r.state s span ≡ closed (reduced 0 stack (part_from_to ts e i j)) s span
closing levels ts e binding stack i j r s span c = closing_at r.on r.state r.base (reduced 0 stack (part_from_to ts e i j)) s span r.holds (r.reduces 0 (omega arith)) c

-- ---- brackets

pub parens_read : (ts : List Lexeme) (inner : Expr) (span : Span) → IsRead ts inner
    → Reading ts (expr_step ts (of.Parens (form ts inner) span)) (exprs.Parens inner span)
unfolding move reduced span_at
parens_read ts inner span ih =
    let body : Piece = sign ts (codes "(") ▸ (form ts inner).piece ▸ sign ts (codes ")") in
    by_span ts 10 (exprs.Parens inner) span (nested body) (λ levels n i j stack fit few e.
    let c = within body n i j e in
    let m : ℕ = c.0 in
    let d = bracketed (is_sign (codes "(")) (is_sign (codes ")")) ts (form ts inner).piece m i j c.2 in
    let k : ℕ = d.0 in
    let inside : List Frame = frames.Parens (span_at ts i (i + 1)).start ∷ stack in
    let one = step levels ts symbols.OpenParenthesis i stack inside states.Operand states.Operand refl d.1 refl (omega (arith, few, c.1)) in
    let r = ih levels m (i + 1) k inside tt (omega (arith, few, c.1)) d.2 in
    let tree : Expr = exprs.Parens inner (span_at ts i (k + 1)) in
    let next : State = states.After (base_of tree (span_at ts i (k + 1))) in
    let two = step levels ts symbols.CloseParenthesis k r.on stack r.state next refl d.3
    (closing levels ts inner (form ts inner).binding inside (i + 1) k r symbols.CloseParenthesis (span_at ts k (k + 1)) refl) (omega (arith, few)) in
    subst (λ (x : ℕ). Reads levels ts (exprs.Parens inner (span_at ts i x)) 10 stack i x) (sym d.4)
    (atom levels ts tree stack i (k + 1) next (omega (arith, r.further)) (one ∙ r.runs ∙ two) (held_after stack (base_of tree (span_at ts i (k + 1))))))
