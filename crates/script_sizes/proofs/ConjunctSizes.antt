-- An expression has no more conjuncts than tokens.
use Rattle.std.specs.Prelude.{◌≡◌, ◌≤◌, ◌+◌, ℕ, Bool, true, false, cond, List, [], ◌∷◌, ◌++◌, map, length, Some, codes}
use Rattle.std.specs.List.{flat_map, list_all}
use Rattle.std.proofs.Common.{refl, sym, ap, subst, ◌∙◌, arith, length-append}
use Rattle.std.proofs.lemmas.Option.{same_Some}
use Rattle.mof_metamodel.specs.declared.span.Span.{Span}
use Rattle.ql_lex.specs.Lexed.{Lexeme}
use Rattle.ql_lex.specs.Lexemes.{is_sign}
use Rattle.qv_syntax.specs.declared.expr.Expr.{Expr, roll-Expr, map-Expr, fold-roll-Expr, ind-Expr}
use Rattle.qv_syntax.specs.declared.expr.Infix.{Infix, roll-Infix, fold-roll-Infix}
use Rattle.qv_syntax.specs.declared.expr.Postfix.{Postfix}
use Rattle.qv_syntax.specs.declared.expr.Args.{Args}
use Rattle.qv_syntax.specs.declared.expr.Args.TheOpen as of
use Rattle.ocl_parser.specs.Pieces.{Piece, ◌▸◌, token, sign, nested, only, each}
use Rattle.ocl_parser.specs.Grammar.{Form, InfixForm, Given, form, infix_form, postfix_piece, given, args_step, expr_step, postfix_step, infix_step, is_chain, is_operator, spelled}
use Rattle.ocl_parser.proofs.CompletePieces.{parts, held, at_span, within, token_first, bracketed}
use Rattle.ocl_parser.proofs.PieceLaws.{each_none}
use Rattle.ocl_parser.proofs.Local.{spelled_end}
use Rattle.script_scopes.specs.Conjuncts.{behind, conjuncts}
use Rattle.script_scopes.proofs.ConjunctLemmas.{by_layer, conjuncts_behind}

-- where its tokens end there is room for its conjuncts
abbrev Fits : Expr → Type 0
Fits e = (ts : List Lexeme) (n from k : ℕ) → spelled ts n e from ≡ Some k → from + length (conjuncts e) ≤ k

-- one that is a conjunct itself has a token
alone : (e : Expr) → conjuncts e ≡ e ∷ [] → Fits e
alone e is ts n from k s =
    let one : length (conjuncts e) ≡ 1 = ap (λ (es : List Expr). length es) is in
    let some = (spelled_end ts n e from k s).0 in
    omega (arith, one, some)

-- ---- its tokens, by its form

abbrev form_at : List Lexeme → of.Expr-F Args Expr Postfix Infix → Form
form_at ts d = expr_step ts (map-Expr Args Expr Postfix Infix Given Form Piece InfixForm (given ts) (form ts) (postfix_piece ts) (infix_form ts) d)

at_layer : (d : of.Expr-F Args Expr Postfix Infix) (ts : List Lexeme) (n from k : ℕ) → spelled ts n (roll-Expr d) from ≡ Some k → (form_at ts d).piece n from ≡ Some k
unfolding spelled
at_layer d ts n from k s =
    subst (λ (f : Form). f.piece n from ≡ Some k) (fold-roll-Expr Given Form Piece InfixForm (args_step ts) (expr_step ts) (postfix_step ts) (infix_step ts) d) s

link_at : (l : Infix) (ts : List Lexeme) (n from k : ℕ) → (infix_form ts l).piece n from ≡ Some k → (token (is_operator l.operator) ts ▸ (form ts l.right).piece) n from ≡ Some k
link_at l ts n from k s =
    subst (λ (f : InfixForm). f.piece n from ≡ Some k)
    (fold-roll-Infix Given Form Piece InfixForm (args_step ts) (expr_step ts) (postfix_step ts) (infix_step ts) (record { operator = l.operator; right = l.right })) s

-- by its piece
fits_at : (e : Expr) → Fits e → (ts : List Lexeme) (n from k : ℕ) → (form ts e).piece n from ≡ Some k → from + length (conjuncts e) ≤ k
unfolding spelled
fits_at e h ts n from k s = h ts n from k s

-- ---- a chain

AllFit : List Infix → Type 0
AllFit [] = Unit {0}
AllFit (l ∷ ls) = Fits l.right × AllFit ls

abbrev all_behind : List Infix → List Expr
all_behind ls = flat_map (λ l. (behind l).conjuncts) ls

links_fit : (ls : List Infix) → AllFit ls → (ts : List Lexeme) (n from k : ℕ) → each (map (λ l. l.piece) (map (infix_form ts) ls)) n from ≡ Some k → from + length (all_behind ls) ≤ k
unfolding each AllFit
links_fit [] all ts n from k s = let same : from ≡ k = same_Some from k s in omega (arith, same)
links_fit (l ∷ ls) all ts n from k s =
    let m = parts (infix_form ts l).piece (each (map (λ (x : InfixForm). x.piece) (map (infix_form ts) ls))) n from k s in
    let right = (token_first (is_operator l.operator) ts (form ts l.right).piece n from m.0 (link_at l ts n from m.0 m.1)).1 in
    let one = fits_at l.right all.0 ts n (from + 1) m.0 right in
    let others = links_fit ls all.1 ts n m.0 k m.2 in
    let own : length ((behind l).conjuncts) ≡ length (conjuncts l.right) = ap (λ (es : List Expr). length es) (conjuncts_behind l) in
    let both = length-append ((behind l).conjuncts) (all_behind ls) in
    omega (arith, one, others, own, both)

chain_fits : (first : Expr) (rest : List Infix) (span : Span) → Fits first → AllFit rest → Fits (roll-Expr (of.Chain first rest span))
chain_fits first rest span h all = by (list_all (λ l. (behind l).is_and) rest) refl
  where
    rule : (b : Bool) → list_all (λ l. (behind l).is_and) rest ≡ b → conjuncts (roll-Expr (of.Chain first rest span))
        ≡ cond b (conjuncts first ++ all_behind rest) (roll-Expr (of.Chain first rest span) ∷ [])
    rule b is = by_layer (of.Chain first rest span) (roll-Expr (of.Chain first rest span)) refl
        ∙ ap (λ (x : Bool). cond x (conjuncts first ++ all_behind rest) (roll-Expr (of.Chain first rest span) ∷ [])) is

    by : (b : Bool) → list_all (λ l. (behind l).is_and) rest ≡ b → Fits (roll-Expr (of.Chain first rest span))
    by false is ts n from k s = alone (roll-Expr (of.Chain first rest span)) (rule false is) ts n from k s
    by true is ts n from k s =
        let inside : Piece = (form ts first).piece ▸ each (map (λ (l : InfixForm). l.piece) (map (infix_form ts) rest)) in
        let bare = (at_span ts span (only (is_chain (form ts first) (map (infix_form ts) rest)) inside) n from k (at_layer (of.Chain first rest span) ts n from k s)).0 in
        let m = parts (form ts first).piece (each (map (λ (l : InfixForm). l.piece) (map (infix_form ts) rest))) n from k
        (held (is_chain (form ts first) (map (infix_form ts) rest)) inside n from k bare).1 in
        let one = fits_at first h ts n from m.0 m.1 in
        let others = links_fit rest all ts n m.0 k m.2 in
        let sum : length (conjuncts (roll-Expr (of.Chain first rest span))) ≡ length (conjuncts first ++ all_behind rest) = ap (λ (es : List Expr). length es) (rule true is) in
        let both = length-append (conjuncts first) (all_behind rest) in
        omega (arith, one, others, sum, both)

-- ---- what is looked through

parens_fit : (inner : Expr) (span : Span) → Fits inner → Fits (roll-Expr (of.Parens inner span))
parens_fit inner span h ts n from k s =
    let bare = (at_span ts span (nested (sign ts (codes "(") ▸ (form ts inner).piece ▸ sign ts (codes ")"))) n from k (at_layer (of.Parens inner span) ts n from k s)).0 in
    let deep = within (sign ts (codes "(") ▸ (form ts inner).piece ▸ sign ts (codes ")")) n from k bare in
    let mid = bracketed (is_sign (codes "(")) (is_sign (codes ")")) ts (form ts inner).piece deep.0 from k deep.2 in
    let one = fits_at inner h ts deep.0 (from + 1) mid.0 mid.2 in
    let same : length (conjuncts (roll-Expr (of.Parens inner span))) ≡ length (conjuncts inner) =
    ap (λ (es : List Expr). length es) (by_layer (of.Parens inner span) (roll-Expr (of.Parens inner span)) refl) in
    let end = mid.4 in
    omega (arith, one, same, end)

part_fits : (part : Expr) (span : Span) → Fits part → Fits (roll-Expr (of.Calls part [] span))
part_fits part span h ts n from k s = by (at_layer (of.Calls part [] span) ts n from k s)
  where
    by : (form_at ts (of.Calls part [] span)).piece n from ≡ Some k → from + length (conjuncts (roll-Expr (of.Calls part [] span))) ≤ k
    by t =
        let inside : Piece = (form ts part).piece ▸ each [] in
        let bare = (at_span ts span (only _ inside) n from k t).0 in
        let m = parts (form ts part).piece (each []) n from k (held _ inside n from k bare).1 in
        let last : m.0 ≡ k = same_Some m.0 k (sym (each_none n m.0) ∙ m.2) in
        let one = fits_at part h ts n from m.0 m.1 in
        let same : length (conjuncts (roll-Expr (of.Calls part [] span))) ≡ length (conjuncts part) =
        ap (λ (es : List Expr). length es) (by_layer (of.Calls part [] span) (roll-Expr (of.Calls part [] span)) refl) in
        omega (arith, one, same, last)

-- ---- all forms

abbrev A : Type 0
A = (a : Args) × Unit {0}

abbrev E : Type 0
E = (e : Expr) × Fits e

abbrev S : Type 0
S = (p : Postfix) × Unit {0}

abbrev L : Type 0
L = (l : Infix) × Fits l.right

all_fit : (ls : List L) → AllFit (map (λ l. l.0) ls)
unfolding AllFit
all_fit [] = tt
all_fit (l ∷ ls) = (l.1, all_fit ls)

layer_fits : (y : of.Expr-F A E S L) → Fits (roll-Expr (map-Expr A E S L Args Expr Postfix Infix (λ x. x.0) (λ x. x.0) (λ x. x.0) (λ x. x.0) y))
layer_fits (of.Let n ty value body span) = alone _ (by_layer (of.Let n ty value.0 body.0 span) _ refl)
layer_fits (of.Chain first rest span) = chain_fits first.0 (map (λ l. l.0) rest) span first.1 (all_fit rest)
layer_fits (of.Not operand span) = alone _ (by_layer (of.Not operand.0 span) _ refl)
layer_fits (of.Negated operand span) = alone _ (by_layer (of.Negated operand.0 span) _ refl)
layer_fits (of.Calls part [] span) = part_fits part.0 span part.1
layer_fits (of.Calls part (call ∷ calls) span) = alone _ (by_layer (of.Calls part.0 (call.0 ∷ map (λ x. x.0) calls) span) _ refl)
layer_fits (of.Number value span) = alone _ (by_layer (of.Number value span) _ refl)
layer_fits (of.Str value span) = alone _ (by_layer (of.Str value span) _ refl)
layer_fits (of.Bool value span) = alone _ (by_layer (of.Bool value span) _ refl)
layer_fits (of.Null span) = alone _ (by_layer (of.Null span) _ refl)
layer_fits (of.Invalid span) = alone _ (by_layer (of.Invalid span) _ refl)
layer_fits (of.Parens inner span) = parens_fit inner.0 span inner.1
layer_fits (of.If condition one other span) = alone _ (by_layer (of.If condition.0 one.0 other.0 span) _ refl)
layer_fits (of.Coll kind elements span) = alone _ (by_layer (of.Coll kind (map (λ e. e.0) elements) span) _ refl)
layer_fits (of.Call n args span) = alone _ (by_layer (of.Call n args.0 span) _ refl)
layer_fits (of.Named path) = alone _ (by_layer (of.Named path) _ refl)

-- an expression has no more conjuncts than tokens
pub conjuncts_fit : (e : Expr) → Fits e
conjuncts_fit = ind-Expr (λ a. Unit {0}) Fits (λ p. Unit {0}) (λ l. Fits l.right)
    (λ x y is. tt) (λ x y is. subst (λ z. Fits (roll-Expr z)) is (layer_fits y)) (λ x y is. tt)
    (λ x y is. subst (λ z. Fits (roll-Infix z).right) is y.right.1)
