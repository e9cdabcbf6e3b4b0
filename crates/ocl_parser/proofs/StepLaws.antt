-- The tokens of chains, calls and their arguments, form by form.
use Rattle.std.proofs.Common.{◌≡◌, ℕ, ◌+◌, ◌<◌, true, false, nat_lt, List, [], ◌∷◌, ◌++◌, length, map, Option, Some, ap, sym, ◌∙◌, refl, arith}
use Rattle.std.specs.Prelude.{codes, ◌==◌}
use Rattle.std.specs.List.{list_all}
use Rattle.std.proofs.lemmas.Bool.Decides.{nat_tests}
use Rattle.std.proofs.lemmas.List.{length-map, map-append}
use Rattle.std.proofs.lemmas.List.Folds.{list_all-append}
use Rattle.mof_metamodel.specs.declared.span.Span.{Span}
use Rattle.ql_lex.specs.Lexed.{Lexeme}
use Rattle.qv_syntax.specs.declared.name.Name.{Name}
use Rattle.qv_syntax.specs.declared.name.Path.{Path}
use Rattle.qv_syntax.specs.declared.operator.Operator.{Operator}
use Rattle.qv_syntax.specs.declared.type_tree.TypeTree.{TypeTree}
use Rattle.qv_syntax.specs.Operators.{level_of}
use Rattle.qv_syntax.specs.declared.expr.Expr.{Expr}
use Rattle.qv_syntax.specs.declared.expr.Infix.{Infix, fold-roll-Infix}
use Rattle.qv_syntax.specs.declared.expr.Postfix.{Postfix, roll-Postfix, map-Postfix, fold-roll-Postfix}
use Rattle.qv_syntax.specs.declared.expr.Postfix.TheVariants.{Property, Dot, Arrow, Iterator, rolls-Property, rolls-Dot, rolls-Arrow, rolls-Iterator}
use Rattle.qv_syntax.specs.declared.expr.Args.{Args, roll-Args, map-Args, fold-roll-Args}
use Rattle.qv_syntax.specs.declared.expr.Args.TheVariants.{Values, Class, rolls-Values, rolls-Class}
use Rattle.qv_syntax.specs.declared.expr.Args.TheOpen as of
use Rattle.ocl_parser.specs.Pieces.{Piece, token, each, separated}
use Rattle.ql_lex.specs.Lexemes.{stands, is_sign, is_name, span_at}
use Rattle.ocl_parser.specs.Grammar.{Form, InfixForm, Given, form, infix_form, postfix_piece, given, args_step, expr_step, postfix_step, infix_step, binding, spelled, spelled_infixes, spelled_postfix, spelled_postfixes, spelled_args, spelled_list, are_of_level, is_of_level, is_operator, path, declared_variable, takes_class}
use Rattle.ql_lex.proofs.TokenLaws.{same_span}
use Rattle.ocl_parser.proofs.PieceLaws.{nested_at, token_taken, both, each_none, each_more, separated_none, separated_one, separated_more}

-- ---- operators with the parts behind them

with_infix : (ts : List Lexeme) (op : Operator) (e : Expr) → infix_form ts (record { operator = op; right = e }) ≡ infix_step ts (record { operator = op; right = form ts e })
with_infix ts op e = fold-roll-Infix Given Form Piece InfixForm (args_step ts) (expr_step ts) (postfix_step ts) (infix_step ts) (record { operator = op; right = e })

pub links_none : (ts : List Lexeme) (n i : ℕ) → spelled_infixes ts n [] i ≡ Some i
unfolding spelled_infixes
links_none ts n i = each_none n i

pub links_more : (ts : List Lexeme) (n : ℕ) (ls : List Infix) (op : Operator) (e : Expr) (i j k : ℕ) → spelled_infixes ts n ls i ≡ Some j → stands (is_operator op) ts j ≡ true → spelled ts n e (j + 1) ≡ Some k
    → spelled_infixes ts n (ls ++ record { operator = op; right = e } ∷ []) i ≡ Some k
unfolding spelled_infixes spelled
links_more ts n ls op e i j k before sign subtree =
    let l : Infix = record { operator = op; right = e } in
    let view : InfixForm → Piece = λ x. x.piece in
    let apart : map view (map (infix_form ts) (ls ++ l ∷ [])) ≡ map view (map (infix_form ts) ls) ++ (infix_form ts l).piece ∷ [] = ap (map view) (map-append (infix_form ts) ls (l ∷ [])) ∙ map-append view (map (infix_form ts) ls) (infix_form ts l ∷ []) in
    let one : (infix_form ts l).piece n j ≡ Some k = ap (λ (x : InfixForm). x.piece n j) (with_infix ts op e) ∙ both (token (is_operator op) ts) (form ts e).piece n j (j + 1) k (token_taken (is_operator op) ts n j sign) subtree in
    ap (λ (ps : List Piece). each ps n i) apart ∙ each_more (map view (map (infix_form ts) ls)) (infix_form ts l).piece n i j k before one

pub level_none : (ts : List Lexeme) (level : ℕ) → are_of_level ts level [] ≡ true
unfolding are_of_level
level_none ts level = refl

pub level_more : (ts : List Lexeme) (level : ℕ) (ls : List Infix) (op : Operator) (e : Expr) → are_of_level ts level ls ≡ true → level_of op ≡ level → level < binding ts e
    → are_of_level ts level (ls ++ record { operator = op; right = e } ∷ []) ≡ true
unfolding are_of_level binding
level_more ts level ls op e before same tight =
    let l : Infix = record { operator = op; right = e } in
    let first : (level_of op == level) ≡ true = grind (arith, nat_tests) in
    let second : nat_lt level (form ts e).binding ≡ true = grind (arith, nat_tests) in
    let one : list_all (is_of_level level) (infix_form ts l ∷ []) ≡ true = ap (λ (x : InfixForm). list_all (is_of_level level) (x ∷ [])) (with_infix ts op e) ∙ rw (first, second) refl in
    ap (list_all (is_of_level level)) (map-append (infix_form ts) ls (l ∷ [])) ∙ list_all-append (is_of_level level) (map (infix_form ts) ls) (infix_form ts l ∷ []) ∙ rw (before, one) refl

-- ---- lists of expressions

pub list_none : (ts : List Lexeme) (n i : ℕ) → spelled_list ts n [] i ≡ Some i
unfolding spelled_list
list_none ts n i = separated_none ts (codes ",") n i

pub list_one : (ts : List Lexeme) (n : ℕ) (e : Expr) (i j : ℕ) → spelled ts n e i ≡ Some j → spelled_list ts n (e ∷ []) i ≡ Some j
unfolding spelled_list spelled
list_one ts n e i j subtree = separated_one ts (codes ",") (form ts e).piece n i j subtree

pub list_more : (ts : List Lexeme) (n : ℕ) (es : List Expr) (e : Expr) (i j k : ℕ) → 0 < length es → spelled_list ts n es i ≡ Some j → stands (is_sign (codes ",")) ts j ≡ true → spelled ts n e (j + 1) ≡ Some k
    → spelled_list ts n (es ++ e ∷ []) i ≡ Some k
unfolding spelled_list spelled
list_more ts n es e i j k some before comma subtree =
    let view : Form → Piece = λ x. x.piece in
    let apart : map view (map (form ts) (es ++ e ∷ [])) ≡ map view (map (form ts) es) ++ (form ts e).piece ∷ [] = ap (map view) (map-append (form ts) es (e ∷ [])) ∙ map-append view (map (form ts) es) (form ts e ∷ []) in
    let there : 0 < length (map view (map (form ts) es)) = omega (arith, length-map es (form ts), length-map (map (form ts) es) view) in
    ap (λ (ps : List Piece). separated ts (codes ",") ps n i) apart ∙ separated_more ts (codes ",") (map view (map (form ts) es)) (form ts e).piece n i j k there before comma subtree

-- ---- calls

stepped : (ts : List Lexeme) (d : of.Postfix-F Args Expr Postfix Infix) (s : Postfix) → roll-Postfix d ≡ s → postfix_piece ts s ≡ postfix_step ts (map-Postfix Args Expr Postfix Infix Given Form Piece InfixForm (given ts) (form ts) (postfix_piece ts) (infix_form ts) d)
stepped ts d s h = ap (postfix_piece ts) (sym h) ∙ fold-roll-Postfix Given Form Piece InfixForm (args_step ts) (expr_step ts) (postfix_step ts) (infix_step ts) d

pub steps_none : (ts : List Lexeme) (n i : ℕ) → spelled_postfixes ts n [] i ≡ Some i
unfolding spelled_postfixes
steps_none ts n i = each_none n i

pub steps_more : (ts : List Lexeme) (n : ℕ) (ss : List Postfix) (s : Postfix) (i j k : ℕ) → spelled_postfixes ts n ss i ≡ Some j → spelled_postfix ts n s j ≡ Some k → spelled_postfixes ts n (ss ++ s ∷ []) i ≡ Some k
unfolding spelled_postfixes spelled_postfix
steps_more ts n ss s i j k before one =
    ap (λ (ps : List Piece). each ps n i) (map-append (postfix_piece ts) ss (s ∷ [])) ∙ each_more (map (postfix_piece ts) ss) (postfix_piece ts s) n i j k before one

pub property_spelled : (ts : List Lexeme) (x : Name) (n i j : ℕ) → stands (is_sign (codes ".")) ts i ≡ true → stands (is_name x) ts (i + 1) ≡ true → j ≡ i + 1 + 1 → spelled_postfix ts n (Property x) i ≡ Some j
unfolding spelled_postfix
property_spelled ts x n i j dot name e = ap (λ (p : Piece). p n i) (stepped ts (of.Property x) (Property x) (rolls-Property x)) ∙ rw (dot, name, ← e) refl

pub dot_spelled : (ts : List Lexeme) (x : Name) (a : Args) (span : Span) (n i j k : ℕ) → stands (is_sign (codes ".")) ts i ≡ true → stands (is_name x) ts (i + 1) ≡ true → j ≡ i + 1 + 1
    → spelled_args ts n x.text a j ≡ Some k → span ≡ span_at ts i k → spelled_postfix ts n (Dot x a span) i ≡ Some k
unfolding spelled_postfix spelled_args
dot_spelled ts x a span n i j k dot name e args at =
    ap (λ (p : Piece). p n i) (stepped ts (of.Dot x a span) (Dot x a span) (rolls-Dot x a span)) ∙ rw (dot, name, ← e, args, at, same_span (span_at ts i k)) refl

pub arrow_spelled : (ts : List Lexeme) (x : Name) (a : Args) (span : Span) (n i j k : ℕ) → stands (is_sign (codes "->")) ts i ≡ true → stands (is_name x) ts (i + 1) ≡ true → j ≡ i + 1 + 1
    → spelled_args ts n x.text a j ≡ Some k → span ≡ span_at ts i k → spelled_postfix ts n (Arrow x a span) i ≡ Some k
unfolding spelled_postfix spelled_args
arrow_spelled ts x a span n i j k arrow name e args at =
    ap (λ (p : Piece). p n i) (stepped ts (of.Arrow x a span) (Arrow x a span) (rolls-Arrow x a span)) ∙ rw (arrow, name, ← e, args, at, same_span (span_at ts i k)) refl

pub iterator_spelled : (ts : List Lexeme) (x v : Name) (ty : Option TypeTree) (body : Expr) (span : Span) (n m i j p q r : ℕ) → n ≡ m + 1 → stands (is_sign (codes "->")) ts i ≡ true → stands (is_name x) ts (i + 1) ≡ true → j ≡ i + 1 + 1
    → declared_variable ts v ty m j ≡ Some p → spelled ts m body p ≡ Some q → stands (is_sign (codes ")")) ts q ≡ true → r ≡ q + 1 → span ≡ span_at ts i r → spelled_postfix ts n (Iterator x v ty body span) i ≡ Some r
unfolding spelled_postfix spelled
iterator_spelled ts x v ty body span n m i j p q r level arrow name e2 variable subtree closes e6 at =
    ap (λ (p : Piece). p n i) (stepped ts (of.Iterator x v ty body span) (Iterator x v ty body span) (rolls-Iterator x v ty body span))
    ∙ rw (level, arrow, name, ← e2, nested_at, variable, subtree, closes, ← e6, at, same_span (span_at ts i r)) refl

-- ---- arguments

supplied : (ts : List Lexeme) (d : of.Args-F Args Expr Postfix Infix) (a : Args) → roll-Args d ≡ a → given ts a ≡ args_step ts (map-Args Args Expr Postfix Infix Given Form Piece InfixForm (given ts) (form ts) (postfix_piece ts) (infix_form ts) d)
supplied ts d a h = ap (given ts) (sym h) ∙ fold-roll-Args Given Form Piece InfixForm (args_step ts) (expr_step ts) (postfix_step ts) (infix_step ts) d

pub values_spelled : (ts : List Lexeme) (text : List ℕ) (es : List Expr) (n m i j k l : ℕ) → takes_class text ≡ false → n ≡ m + 1 → stands (is_sign (codes "(")) ts i ≡ true → j ≡ i + 1 → spelled_list ts m es j ≡ Some k
    → stands (is_sign (codes ")")) ts k ≡ true → l ≡ k + 1 → spelled_args ts n text (Values es) i ≡ Some l
unfolding spelled_args spelled_list
values_spelled ts text es n m i j k l plain level opens e1 subtree closes e2 =
    rw (supplied ts (of.Values es) (Values es) (rolls-Values es), plain, level, nested_at, opens, ← e1, subtree, closes, ← e2) refl

pub class_spelled : (ts : List Lexeme) (text : List ℕ) (p : Path) (n m i j k l : ℕ) → takes_class text ≡ true → n ≡ m + 1 → stands (is_sign (codes "(")) ts i ≡ true → j ≡ i + 1 → ((h : ℕ) → path ts 2 p h j ≡ Some k)
    → stands (is_sign (codes ")")) ts k ≡ true → l ≡ k + 1 → spelled_args ts n text (Class p) i ≡ Some l
unfolding spelled_args
class_spelled ts text p n m i j k l class level opens e1 subtree closes e2 =
    rw (supplied ts (of.Class p) (Class p) (rolls-Class p), class, level, nested_at, opens, ← e1, subtree m, closes, ← e2) refl
