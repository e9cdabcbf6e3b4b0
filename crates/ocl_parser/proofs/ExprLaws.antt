-- The tokens of an expression, form by form: what has been read of its parts spells the whole.
use Rattle.std.proofs.Common.{◌≡◌, ℕ, ◌+◌, ◌<◌, ◌≤◌, Bool, true, false, ◌&&◌, nat_lt, nat_le, List, [], ◌∷◌, length, map, Some, ℤ, ap, sym, ◌∙◌, refl, arith}
use Rattle.std.specs.Prelude.{codes, ◌==◌}
use Rattle.std.specs.List.{list_all}
use Rattle.std.proofs.lemmas.Bool.Decides.{nat_tests}
use Rattle.std.proofs.lemmas.List.{length-map}
use Rattle.mof_metamodel.specs.declared.span.Span.{Span}
use Rattle.ql_lex.specs.Lexed.{Lexeme}
use Rattle.qv_syntax.specs.declared.name.Name.{Name}
use Rattle.qv_syntax.specs.declared.name.Path.{Path}
use Rattle.qv_syntax.specs.declared.type_tree.Kind.{Kind}
use Rattle.qv_syntax.specs.declared.type_tree.TypeTree.{TypeTree}
use Rattle.qv_syntax.specs.declared.expr.Expr.{Expr, roll-Expr, map-Expr, fold-roll-Expr}
use Rattle.qv_syntax.specs.declared.expr.Expr.TheVariants.{Let, Chain, Not, Negated, Calls, Number, Str, Bool as Constant, Null, Invalid, Parens, If, Coll, Call, Named, rolls-Let, rolls-Chain, rolls-Not, rolls-Negated, rolls-Calls, rolls-Number, rolls-Str, rolls-Bool, rolls-Null, rolls-Invalid, rolls-Parens, rolls-If, rolls-Coll, rolls-Call, rolls-Named}
use Rattle.qv_syntax.specs.declared.expr.Infix.{Infix}
use Rattle.qv_syntax.specs.declared.expr.Postfix.{Postfix}
use Rattle.qv_syntax.specs.declared.expr.Args.{Args}
use Rattle.qv_syntax.specs.declared.expr.Args.TheOpen as of
use Rattle.ocl_parser.specs.Pieces.{Piece}
use Rattle.ql_lex.specs.Lexemes.{stands, is_sign, is_word, is_name, is_number, is_string, span_at}
use Rattle.ocl_parser.specs.Grammar.{Form, InfixForm, Given, form, infix_form, postfix_piece, given, args_step, expr_step, postfix_step, infix_step, binding, spelled, spelled_infixes, spelled_postfixes, spelled_args, spelled_list, are_of_level, is_of_level, is_chain, chain_level, path, kind_word, bound, constant}
use Rattle.ql_lex.proofs.TokenLaws.{same_span}
use Rattle.ocl_parser.proofs.PieceLaws.{nested_at}
use Rattle.std.proofs.lemmas.Bool.{lt-ltb}
use Rattle.mof_metamodel.proofs.Facts.{first_true}

rolled : (ts : List Lexeme) (d : of.Expr-F Args Expr Postfix Infix) (e : Expr) → roll-Expr d ≡ e → form ts e ≡ expr_step ts (map-Expr Args Expr Postfix Infix Given Form Piece InfixForm (given ts) (form ts) (postfix_piece ts) (infix_form ts) d)
rolled ts d e h = ap (form ts) (sym h) ∙ fold-roll-Expr Given Form Piece InfixForm (args_step ts) (expr_step ts) (postfix_step ts) (infix_step ts) d

-- ---- what holds no other expression

pub number_spelled : (ts : List Lexeme) (value : ℤ) (span : Span) (n i : ℕ) → stands (is_number value) ts i ≡ true → span ≡ span_at ts i (i + 1) → spelled ts n (Number value span) i ≡ Some (i + 1)
unfolding spelled
number_spelled ts value span n i e at = ap (λ (f : Form). f.piece n i) (rolled ts (of.Number value span) (Number value span) (rolls-Number value span)) ∙ rw (e, at, same_span (span_at ts i (i + 1))) refl

pub string_spelled : (ts : List Lexeme) (value : List ℕ) (span : Span) (n i : ℕ) → stands (is_string value) ts i ≡ true → span ≡ span_at ts i (i + 1) → spelled ts n (Str value span) i ≡ Some (i + 1)
unfolding spelled
string_spelled ts value span n i e at = ap (λ (f : Form). f.piece n i) (rolled ts (of.Str value span) (Str value span) (rolls-Str value span)) ∙ rw (e, at, same_span (span_at ts i (i + 1))) refl

pub constant_spelled : (ts : List Lexeme) (value : Bool) (span : Span) (n i : ℕ) → stands (is_word (constant value)) ts i ≡ true → span ≡ span_at ts i (i + 1) → spelled ts n (Constant value span) i ≡ Some (i + 1)
unfolding spelled
constant_spelled ts value span n i e at = ap (λ (f : Form). f.piece n i) (rolled ts (of.Bool value span) (Constant value span) (rolls-Bool value span)) ∙ rw (e, at, same_span (span_at ts i (i + 1))) refl

pub null_spelled : (ts : List Lexeme) (span : Span) (n i : ℕ) → stands (is_word (codes "null")) ts i ≡ true → span ≡ span_at ts i (i + 1) → spelled ts n (Null span) i ≡ Some (i + 1)
unfolding spelled
null_spelled ts span n i e at = ap (λ (f : Form). f.piece n i) (rolled ts (of.Null span) (Null span) (rolls-Null span)) ∙ rw (e, at, same_span (span_at ts i (i + 1))) refl

pub invalid_spelled : (ts : List Lexeme) (span : Span) (n i : ℕ) → stands (is_word (codes "invalid")) ts i ≡ true → span ≡ span_at ts i (i + 1) → spelled ts n (Invalid span) i ≡ Some (i + 1)
unfolding spelled
invalid_spelled ts span n i e at = ap (λ (f : Form). f.piece n i) (rolled ts (of.Invalid span) (Invalid span) (rolls-Invalid span)) ∙ rw (e, at, same_span (span_at ts i (i + 1))) refl

pub named_spelled : (ts : List Lexeme) (p : Path) (n i j : ℕ) → ((m : ℕ) → path ts 3 p m i ≡ Some j) → spelled ts n (Named p) i ≡ Some j
unfolding spelled
named_spelled ts p n i j e = ap (λ (f : Form). f.piece n i) (rolled ts (of.Named p) (Named p) (rolls-Named p)) ∙ e n

-- ---- what nests

pub parens_spelled : (ts : List Lexeme) (inner : Expr) (span : Span) (n m i j k l : ℕ) → n ≡ m + 1 → stands (is_sign (codes "(")) ts i ≡ true → j ≡ i + 1
    → spelled ts m inner j ≡ Some k → stands (is_sign (codes ")")) ts k ≡ true → l ≡ k + 1 → span ≡ span_at ts i l → spelled ts n (Parens inner span) i ≡ Some l
unfolding spelled
parens_spelled ts inner span n m i j k l level opens first subtree closes last at =
    ap (λ (f : Form). f.piece n i) (rolled ts (of.Parens inner span) (Parens inner span) (rolls-Parens inner span)) ∙ rw (level, nested_at, opens, ← first, subtree, closes, ← last, at, same_span (span_at ts i l)) refl

pub if_spelled : (ts : List Lexeme) (condition one other : Expr) (span : Span) (n m i k o q r : ℕ) → n ≡ m + 1 → stands (is_word (codes "if")) ts i ≡ true → spelled ts m condition (i + 1) ≡ Some k
    → stands (is_word (codes "then")) ts k ≡ true → spelled ts m one (k + 1) ≡ Some o → stands (is_word (codes "else")) ts o ≡ true → spelled ts m other (o + 1) ≡ Some q
    → stands (is_word (codes "endif")) ts q ≡ true → r ≡ q + 1 → span ≡ span_at ts i r → spelled ts n (If condition one other span) i ≡ Some r
unfolding spelled
if_spelled ts condition one other span n m i k o q r level w1 s1 w2 s2 w3 s3 w4 e4 at =
    ap (λ (f : Form). f.piece n i) (rolled ts (of.If condition one other span) (If condition one other span) (rolls-If condition one other span)) ∙ rw (level, nested_at, w1, s1, w2, s2, w3, s3, w4, ← e4, at, same_span (span_at ts i r)) refl

pub let_spelled : (ts : List Lexeme) (x : Name) (ty : TypeTree) (value body : Expr) (span : Span) (n m i j p q s : ℕ) → n ≡ m + 1 → stands (is_word (codes "let")) ts i ≡ true → j ≡ i + 1
    → bound ts x ty m j ≡ Some p → spelled ts m value p ≡ Some q → stands (is_word (codes "in")) ts q ≡ true → spelled ts m body (q + 1) ≡ Some s → span ≡ span_at ts i s → spelled ts n (Let x ty value body span) i ≡ Some s
unfolding spelled
let_spelled ts x ty value body span n m i j p q s level w1 e1 head s2 w5 s3 at =
    ap (λ (f : Form). f.piece n i) (rolled ts (of.Let x ty value body span) (Let x ty value body span) (rolls-Let x ty value body span)) ∙ rw (level, nested_at, w1, ← e1, head, s2, w5, s3, at, same_span (span_at ts i s)) refl

pub coll_spelled : (ts : List Lexeme) (kind : Kind) (es : List Expr) (span : Span) (n m i j k l o : ℕ) → stands (is_word (kind_word kind)) ts i ≡ true → j ≡ i + 1 → n ≡ m + 1 → stands (is_sign (codes "{")) ts j ≡ true → k ≡ j + 1
    → spelled_list ts m es k ≡ Some l → stands (is_sign (codes "}")) ts l ≡ true → o ≡ l + 1 → span ≡ span_at ts i o → spelled ts n (Coll kind es span) i ≡ Some o
unfolding spelled spelled_list
coll_spelled ts kind es span n m i j k l o word e1 level opens e2 subtree closes e3 at =
    ap (λ (f : Form). f.piece n i) (rolled ts (of.Coll kind es span) (Coll kind es span) (rolls-Coll kind es span)) ∙ rw (level, word, ← e1, nested_at, opens, ← e2, subtree, closes, ← e3, at, same_span (span_at ts i o)) refl

-- ---- the rest

pub call_spelled : (ts : List Lexeme) (x : Name) (args : Args) (span : Span) (n i j k : ℕ) → stands (is_name x) ts i ≡ true → j ≡ i + 1 → spelled_args ts n x.text args j ≡ Some k → span ≡ span_at ts i k
    → spelled ts n (Call x args span) i ≡ Some k
unfolding spelled spelled_args
call_spelled ts x args span n i j k name e1 subtree at =
    ap (λ (f : Form). f.piece n i) (rolled ts (of.Call x args span) (Call x args span) (rolls-Call x args span)) ∙ rw (name, ← e1, subtree, at, same_span (span_at ts i k)) refl

at_least : (a b : ℕ) → a ≤ b → nat_le a b ≡ true
at_least a b h = grind (arith, nat_tests)

pub not_spelled : (ts : List Lexeme) (operand : Expr) (span : Span) (n m i j k : ℕ) → n ≡ m + 1 → stands (is_word (codes "not")) ts i ≡ true → j ≡ i + 1
    → spelled ts m operand j ≡ Some k → 8 ≤ binding ts operand → span ≡ span_at ts i k → spelled ts n (Not operand span) i ≡ Some k
unfolding spelled binding
not_spelled ts operand span n m i j k level word first subtree tight at =
    ap (λ (f : Form). f.piece n i) (rolled ts (of.Not operand span) (Not operand span) (rolls-Not operand span)) ∙ rw (at_least 8 (form ts operand).binding tight, level, nested_at, word, ← first, subtree, at, same_span (span_at ts i k)) refl

pub negated_spelled : (ts : List Lexeme) (operand : Expr) (span : Span) (n m i j k : ℕ) → n ≡ m + 1 → stands (is_sign (codes "-")) ts i ≡ true → j ≡ i + 1
    → spelled ts m operand j ≡ Some k → 8 ≤ binding ts operand → span ≡ span_at ts i k → spelled ts n (Negated operand span) i ≡ Some k
unfolding spelled binding
negated_spelled ts operand span n m i j k level word first subtree tight at =
    ap (λ (f : Form). f.piece n i) (rolled ts (of.Negated operand span) (Negated operand span) (rolls-Negated operand span)) ∙ rw (at_least 8 (form ts operand).binding tight, level, nested_at, word, ← first, subtree, at, same_span (span_at ts i k)) refl

pub calls_spelled : (ts : List Lexeme) (subtree : Expr) (steps : List Postfix) (span : Span) (n i j k : ℕ) → spelled ts n subtree i ≡ Some j → 10 ≤ binding ts subtree → spelled_postfixes ts n steps j ≡ Some k → 0 < length steps → span ≡ span_at ts i k
    → spelled ts n (Calls subtree steps span) i ≡ Some k
unfolding spelled spelled_postfixes binding
calls_spelled ts subtree steps span n i j k first tight rest some at =
    let there : nat_lt 0 (length (map (postfix_piece ts) steps)) ≡ true = lt-ltb 0 (length (map (postfix_piece ts) steps)) (omega (arith, length-map steps (postfix_piece ts))) in
    ap (λ (f : Form). f.piece n i) (rolled ts (of.Calls subtree steps span) (Calls subtree steps span) (rolls-Calls subtree steps span)) ∙ rw (at_least 10 (form ts subtree).binding tight, there, first, rest, at, same_span (span_at ts i k)) refl

chain_level_is : (level : ℕ) (ls : List InfixForm) → 0 < length ls → list_all (is_of_level level) ls ≡ true → chain_level ls ≡ level
chain_level_is level [] some all = absurd (omega arith)
chain_level_is level (l ∷ ls) some all =
    let here : (l.level == level) ≡ true = first_true (l.level == level) (nat_lt level l.subtree) (first_true (is_of_level level l) (list_all (is_of_level level) ls) all) in
    grind (arith, nat_tests)

pub chain_binding : (ts : List Lexeme) (first : Expr) (rest : List Infix) (span : Span) (level : ℕ) → are_of_level ts level rest ≡ true → 0 < length rest → binding ts (Chain first rest span) ≡ level
unfolding binding are_of_level
chain_binding ts first rest span level all some =
    ap (λ (f : Form). f.binding) (rolled ts (of.Chain first rest span) (Chain first rest span) (rolls-Chain first rest span)) ∙ chain_level_is level (map (infix_form ts) rest) (omega (arith, length-map rest (infix_form ts))) all

pub chain_spelled : (ts : List Lexeme) (first : Expr) (rest : List Infix) (span : Span) (level n i j k : ℕ) → spelled ts n first i ≡ Some j → level < binding ts first → spelled_infixes ts n rest j ≡ Some k
    → are_of_level ts level rest ≡ true → 0 < length rest → span ≡ span_at ts i k → spelled ts n (Chain first rest span) i ≡ Some k
unfolding spelled spelled_infixes binding are_of_level
chain_spelled ts first rest span level n i j k begins tight more all some at =
    let ls : List InfixForm = map (infix_form ts) rest in
    let there : 0 < length ls = omega (arith, length-map rest (infix_form ts)) in
    let same : chain_level ls ≡ level = chain_level_is level ls there all in
    let holds : is_chain (form ts first) ls ≡ true = rw (same, lt-ltb 0 (length ls) there, lt-ltb level (form ts first).binding tight, all) refl in
    ap (λ (f : Form). f.piece n i) (rolled ts (of.Chain first rest span) (Chain first rest span) (rolls-Chain first rest span)) ∙ rw (holds, begins, more, at, same_span (span_at ts i k)) refl

-- ---- how tightly each form binds

pub number_binding : (ts : List Lexeme) (value : ℤ) (span : Span) → binding ts (Number value span) ≡ 10
unfolding binding
number_binding ts value span = ap (λ (f : Form). f.binding) (rolled ts (of.Number value span) (Number value span) (rolls-Number value span))

pub string_binding : (ts : List Lexeme) (value : List ℕ) (span : Span) → binding ts (Str value span) ≡ 10
unfolding binding
string_binding ts value span = ap (λ (f : Form). f.binding) (rolled ts (of.Str value span) (Str value span) (rolls-Str value span))

pub constant_binding : (ts : List Lexeme) (value : Bool) (span : Span) → binding ts (Constant value span) ≡ 10
unfolding binding
constant_binding ts value span = ap (λ (f : Form). f.binding) (rolled ts (of.Bool value span) (Constant value span) (rolls-Bool value span))

pub null_binding : (ts : List Lexeme) (span : Span) → binding ts (Null span) ≡ 10
unfolding binding
null_binding ts span = ap (λ (f : Form). f.binding) (rolled ts (of.Null span) (Null span) (rolls-Null span))

pub invalid_binding : (ts : List Lexeme) (span : Span) → binding ts (Invalid span) ≡ 10
unfolding binding
invalid_binding ts span = ap (λ (f : Form). f.binding) (rolled ts (of.Invalid span) (Invalid span) (rolls-Invalid span))

pub named_binding : (ts : List Lexeme) (p : Path) → binding ts (Named p) ≡ 10
unfolding binding
named_binding ts p = ap (λ (f : Form). f.binding) (rolled ts (of.Named p) (Named p) (rolls-Named p))

pub parens_binding : (ts : List Lexeme) (inner : Expr) (span : Span) → binding ts (Parens inner span) ≡ 10
unfolding binding
parens_binding ts inner span = ap (λ (f : Form). f.binding) (rolled ts (of.Parens inner span) (Parens inner span) (rolls-Parens inner span))

pub if_binding : (ts : List Lexeme) (condition one other : Expr) (span : Span) → binding ts (If condition one other span) ≡ 10
unfolding binding
if_binding ts condition one other span = ap (λ (f : Form). f.binding) (rolled ts (of.If condition one other span) (If condition one other span) (rolls-If condition one other span))

pub coll_binding : (ts : List Lexeme) (kind : Kind) (es : List Expr) (span : Span) → binding ts (Coll kind es span) ≡ 10
unfolding binding
coll_binding ts kind es span = ap (λ (f : Form). f.binding) (rolled ts (of.Coll kind es span) (Coll kind es span) (rolls-Coll kind es span))

pub call_binding : (ts : List Lexeme) (x : Name) (args : Args) (span : Span) → binding ts (Call x args span) ≡ 10
unfolding binding
call_binding ts x args span = ap (λ (f : Form). f.binding) (rolled ts (of.Call x args span) (Call x args span) (rolls-Call x args span))

pub calls_binding : (ts : List Lexeme) (subtree : Expr) (steps : List Postfix) (span : Span) → binding ts (Calls subtree steps span) ≡ 9
unfolding binding
calls_binding ts subtree steps span = ap (λ (f : Form). f.binding) (rolled ts (of.Calls subtree steps span) (Calls subtree steps span) (rolls-Calls subtree steps span))

pub not_binding : (ts : List Lexeme) (operand : Expr) (span : Span) → binding ts (Not operand span) ≡ 8
unfolding binding
not_binding ts operand span = ap (λ (f : Form). f.binding) (rolled ts (of.Not operand span) (Not operand span) (rolls-Not operand span))

pub negated_binding : (ts : List Lexeme) (operand : Expr) (span : Span) → binding ts (Negated operand span) ≡ 8
unfolding binding
negated_binding ts operand span = ap (λ (f : Form). f.binding) (rolled ts (of.Negated operand span) (Negated operand span) (rolls-Negated operand span))
