-- Each expression is read from its tokens.
use Rattle.std.proofs.Common.{◌≡◌, ℕ, ◌+◌, ◌≤◌, List, [], length, map, drop, Some, ap, sym, ◌∙◌, refl, subst, arith}
use Rattle.std.proofs.lemmas.List.{drop_all}
use Rattle.ql_lex.specs.Lexed.{Lexeme}
use Rattle.qv_syntax.specs.declared.expr.Expr.{Expr, roll-Expr, map-Expr, ind-Expr}
use Rattle.qv_syntax.specs.declared.expr.Expr.TheVariants as exprs
use Rattle.qv_syntax.specs.declared.expr.Infix.{Infix, roll-Infix}
use Rattle.qv_syntax.specs.declared.expr.Postfix.{Postfix, roll-Postfix, map-Postfix}
use Rattle.qv_syntax.specs.declared.expr.Postfix.TheVariants as postfixes
use Rattle.qv_syntax.specs.declared.expr.Args.{Args, roll-Args, map-Args}
use Rattle.qv_syntax.specs.declared.expr.Args.TheVariants as args
use Rattle.qv_syntax.specs.declared.expr.Args.TheOpen as of
use Rattle.ocl_parser.specs.Grammar.{form, spelled}
use Rattle.ocl_parser.specs.Moves.{reduced}
use Rattle.ocl_parser.specs.Runs.{answer, run, ended_by, Tree}
use Rattle.ql_lex.specs.Symbols.{nowhere}
use Rattle.ql_lex.specs.declared.symbol.Symbol.TheVariants as symbols
use Rattle.ocl_parser.proofs.CompleteRuns.{going}
use Rattle.ocl_parser.proofs.CompleteForms.{IsRead, rolled, closing, parens_read}
use Rattle.ocl_parser.proofs.CompleteAtoms.{number_read, string_read, constant_read, null_read, invalid_read, named_read}
use Rattle.ocl_parser.proofs.CompleteNests.{if_read, not_read, negated_read, let_read}
use Rattle.ocl_parser.proofs.CompleteLists.{all_of}
use Rattle.ocl_parser.proofs.CompleteChains.{IsInfixRead, chain_read}
use Rattle.ocl_parser.proofs.CompleteCalls.{AreArgsRead, args_rolled, values_read, class_argument_read, call_read, coll_read}
use Rattle.ocl_parser.proofs.CompleteSteps.{IsPostfixRead, step_rolled, property_read, dot_read, arrow_read, iterator_read, calls_read}

-- what one layer of an expression holds, each with the fact that it is read
abbrev ReadArgs : List Lexeme → Type 0
ReadArgs ts = (a : Args) × AreArgsRead ts a

abbrev ReadExpr : List Lexeme → Type 0
ReadExpr ts = (e : Expr) × IsRead ts e

abbrev ReadStep : List Lexeme → Type 0
ReadStep ts = (s : Postfix) × IsPostfixRead ts s

abbrev ReadLink : List Lexeme → Type 0
ReadLink ts = (l : Infix) × IsInfixRead ts l

args_formed : (ts : List Lexeme) (y : of.Args-F (ReadArgs ts) (ReadExpr ts) (ReadStep ts) (ReadLink ts))
    → AreArgsRead ts (roll-Args (map-Args (ReadArgs ts) (ReadExpr ts) (ReadStep ts) (ReadLink ts) Args Expr Postfix Infix (λ e. e.0) (λ e. e.0) (λ e. e.0) (λ e. e.0) y))
args_formed ts (of.Values vs) =
    let es : List Expr = map (λ e. e.0) vs in
    let all = all_of (IsRead ts) vs in
    subst (AreArgsRead ts) (sym (args.rolls-Values es)) (args_rolled ts (of.Values es) (args.Values es) (args.rolls-Values es) (values_read ts es all))
args_formed ts (of.Class p) = subst (AreArgsRead ts) (sym (args.rolls-Class p))
    (args_rolled ts (of.Class p) (args.Class p) (args.rolls-Class p) (class_argument_read ts p))

step_formed : (ts : List Lexeme) (y : of.Postfix-F (ReadArgs ts) (ReadExpr ts) (ReadStep ts) (ReadLink ts))
    → IsPostfixRead ts (roll-Postfix (map-Postfix (ReadArgs ts) (ReadExpr ts) (ReadStep ts) (ReadLink ts) Args Expr Postfix Infix (λ e. e.0) (λ e. e.0) (λ e. e.0) (λ e. e.0) y))
step_formed ts (of.Property x) = subst (IsPostfixRead ts) (sym (postfixes.rolls-Property x))
    (step_rolled ts (of.Property x) (postfixes.Property x) (postfixes.rolls-Property x) (property_read ts x))
step_formed ts (of.Dot x a span) = subst (IsPostfixRead ts) (sym (postfixes.rolls-Dot x a.0 span))
    (step_rolled ts (of.Dot x a.0 span) (postfixes.Dot x a.0 span) (postfixes.rolls-Dot x a.0 span) (dot_read ts x a.0 span a.1))
step_formed ts (of.Arrow x a span) = subst (IsPostfixRead ts) (sym (postfixes.rolls-Arrow x a.0 span))
    (step_rolled ts (of.Arrow x a.0 span) (postfixes.Arrow x a.0 span) (postfixes.rolls-Arrow x a.0 span) (arrow_read ts x a.0 span a.1))
step_formed ts (of.Iterator x v ty body span) = subst (IsPostfixRead ts) (sym (postfixes.rolls-Iterator x v ty body.0 span))
    (step_rolled ts (of.Iterator x v ty body.0 span) (postfixes.Iterator x v ty body.0 span) (postfixes.rolls-Iterator x v ty body.0 span)
    (iterator_read ts x v ty body.0 span body.1))

expr_formed : (ts : List Lexeme) (y : of.Expr-F (ReadArgs ts) (ReadExpr ts) (ReadStep ts) (ReadLink ts))
    → IsRead ts (roll-Expr (map-Expr (ReadArgs ts) (ReadExpr ts) (ReadStep ts) (ReadLink ts) Args Expr Postfix Infix (λ e. e.0) (λ e. e.0) (λ e. e.0) (λ e. e.0) y))
expr_formed ts (of.Let x ty value body span) = subst (IsRead ts) (sym (exprs.rolls-Let x ty value.0 body.0 span))
    (rolled ts (of.Let x ty value.0 body.0 span) (exprs.Let x ty value.0 body.0 span) (exprs.rolls-Let x ty value.0 body.0 span)
    (let_read ts x ty value.0 body.0 span value.1 body.1))
expr_formed ts (of.Chain first rest span) =
    let ls : List Infix = map (λ e. e.0) rest in
    let all = all_of (IsInfixRead ts) rest in
    subst (IsRead ts) (sym (exprs.rolls-Chain first.0 ls span))
    (rolled ts (of.Chain first.0 ls span) (exprs.Chain first.0 ls span) (exprs.rolls-Chain first.0 ls span) (chain_read ts first.0 ls span first.1 all))
expr_formed ts (of.Not operand span) = subst (IsRead ts) (sym (exprs.rolls-Not operand.0 span))
    (rolled ts (of.Not operand.0 span) (exprs.Not operand.0 span) (exprs.rolls-Not operand.0 span) (not_read ts operand.0 span operand.1))
expr_formed ts (of.Negated operand span) = subst (IsRead ts) (sym (exprs.rolls-Negated operand.0 span))
    (rolled ts (of.Negated operand.0 span) (exprs.Negated operand.0 span) (exprs.rolls-Negated operand.0 span) (negated_read ts operand.0 span operand.1))
expr_formed ts (of.Calls subtree rest span) =
    let ss : List Postfix = map (λ e. e.0) rest in
    let all = all_of (IsPostfixRead ts) rest in
    subst (IsRead ts) (sym (exprs.rolls-Calls subtree.0 ss span))
    (rolled ts (of.Calls subtree.0 ss span) (exprs.Calls subtree.0 ss span) (exprs.rolls-Calls subtree.0 ss span) (calls_read ts subtree.0 ss span subtree.1 all))
expr_formed ts (of.Number value span) = subst (IsRead ts) (sym (exprs.rolls-Number value span))
    (rolled ts (of.Number value span) (exprs.Number value span) (exprs.rolls-Number value span) (number_read ts value span))
expr_formed ts (of.Str value span) = subst (IsRead ts) (sym (exprs.rolls-Str value span))
    (rolled ts (of.Str value span) (exprs.Str value span) (exprs.rolls-Str value span) (string_read ts value span))
expr_formed ts (of.Bool value span) = subst (IsRead ts) (sym (exprs.rolls-Bool value span))
    (rolled ts (of.Bool value span) (exprs.Bool value span) (exprs.rolls-Bool value span) (constant_read ts value span))
expr_formed ts (of.Null span) = subst (IsRead ts) (sym (exprs.rolls-Null span)) (rolled ts (of.Null span) (exprs.Null span) (exprs.rolls-Null span) (null_read ts span))
expr_formed ts (of.Invalid span) = subst (IsRead ts) (sym (exprs.rolls-Invalid span))
    (rolled ts (of.Invalid span) (exprs.Invalid span) (exprs.rolls-Invalid span) (invalid_read ts span))
expr_formed ts (of.Parens inner span) = subst (IsRead ts) (sym (exprs.rolls-Parens inner.0 span))
    (rolled ts (of.Parens inner.0 span) (exprs.Parens inner.0 span) (exprs.rolls-Parens inner.0 span) (parens_read ts inner.0 span inner.1))
expr_formed ts (of.If condition one other span) = subst (IsRead ts) (sym (exprs.rolls-If condition.0 one.0 other.0 span))
    (rolled ts (of.If condition.0 one.0 other.0 span) (exprs.If condition.0 one.0 other.0 span) (exprs.rolls-If condition.0 one.0 other.0 span)
    (if_read ts condition.0 one.0 other.0 span condition.1 one.1 other.1))
expr_formed ts (of.Coll kind elements span) =
    let es : List Expr = map (λ e. e.0) elements in
    let all = all_of (IsRead ts) elements in
    subst (IsRead ts) (sym (exprs.rolls-Coll kind es span)) (rolled ts (of.Coll kind es span) (exprs.Coll kind es span) (exprs.rolls-Coll kind es span)
    (coll_read ts kind es span all))
expr_formed ts (of.Call x a span) = subst (IsRead ts) (sym (exprs.rolls-Call x a.0 span))
    (rolled ts (of.Call x a.0 span) (exprs.Call x a.0 span) (exprs.rolls-Call x a.0 span) (call_read ts x a.0 span a.1))
expr_formed ts (of.Named p) = subst (IsRead ts) (sym (exprs.rolls-Named p)) (rolled ts (of.Named p) (exprs.Named p) (exprs.rolls-Named p) (named_read ts p))

-- the tokens of an expression, wherever they stand, lead to it
pub expr_read : (ts : List Lexeme) (e : Expr) → IsRead ts e
expr_read ts = ind-Expr (AreArgsRead ts) (IsRead ts) (IsPostfixRead ts) (IsInfixRead ts)
    (λ x y is. subst (λ d. AreArgsRead ts (roll-Args d)) is (args_formed ts y))
    (λ x y is. subst (λ d. IsRead ts (roll-Expr d)) is (expr_formed ts y))
    (λ x y is. subst (λ d. IsPostfixRead ts (roll-Postfix d)) is (step_formed ts y))
    (λ x y is. subst (λ d. IsInfixRead ts (roll-Infix d)) is y.right.1)

-- the tokens of an expression, with nothing behind them, are read as it
pub complete_within : (ts : List Lexeme) (levels n : ℕ) (e : Expr) (from : ℕ) → n ≤ levels → spelled ts n e from ≡ Some (length ts)
    → answer ts levels from ≡ Tree e (length ts)
unfolding spelled answer run going reduced
complete_within ts levels n e from few h =
    let r = expr_read ts e levels n from (length ts) [] tt (omega arith) h in
    let ended = closing levels ts e (form ts e).binding [] from (length ts) r symbols.Other nowhere refl in
    let none : drop (length ts) ts ≡ [] = drop_all (length ts) ts (omega arith) in
    r.runs ∙ rw none (ap (λ m. ended_by m.action (length ts)) ended)

pub complete : (ts : List Lexeme) (levels : ℕ) (e : Expr) (from : ℕ) → spelled ts levels e from ≡ Some (length ts) → answer ts levels from ≡ Tree e (length ts)
complete ts levels e from h = complete_within ts levels levels e from (omega arith) h

tree_of : (d e : Expr) (i j : ℕ) → Tree d i ≡ Tree e j → d ≡ e
tree_of d e i j h = cc

-- so they are those of no other expression
pub one_tree : (ts : List Lexeme) (n m : ℕ) (d e : Expr) (from : ℕ) → spelled ts n d from ≡ Some (length ts) → spelled ts m e from ≡ Some (length ts) → d ≡ e
one_tree ts n m d e from g h = tree_of d e (length ts) (length ts)
    (sym (complete_within ts (n + m) n d from (omega arith) g) ∙ complete_within ts (n + m) m e from (omega arith) h)
