-- Which tokens open levels, and what stands behind them.
use Rattle.std.proofs.Common.{◌≡◌, ℕ, ◌+◌, ◌≤◌, ◌==◌, nat_lt, nat_le, Bool, true, false, ◌||◌, if◌then◌else◌, List, [], ◌∷◌, length, ap, refl, arith}
use Rattle.std.specs.Prelude.{codes}
use Rattle.mof_metamodel.specs.declared.span.Span.{Span}
use Rattle.ql_lex.specs.Lexed.{Lexeme}
use Rattle.qv_syntax.specs.declared.name.Name.{Name}
use Rattle.qv_syntax.specs.declared.name.Path.{Path}
use Rattle.qv_syntax.specs.declared.operator.Operator.{Operator}
use Rattle.qv_syntax.specs.declared.operator.Operator.TheVariants as operators
use Rattle.qv_syntax.specs.declared.type_tree.Kind.{Kind}
use Rattle.qv_syntax.specs.declared.type_tree.TypeTree.{TypeTree}
use Rattle.qv_syntax.specs.declared.type_tree.TypeTree.TheVariants as types
use Rattle.qv_syntax.specs.declared.expr.Expr.TheVariants as exprs
use Rattle.qv_syntax.specs.declared.expr.Postfix.TheVariants as postfixes
use Rattle.qv_syntax.specs.Operators.{level_of}
use Rattle.ocl_parser.specs.Grammar.{takes_class}
use Rattle.ql_lex.specs.Lexemes.{is_sign, is_word}
use Rattle.ocl_parser.specs.Beginnings.{opens}
use Rattle.ql_lex.specs.Symbols.{symbol_of}
use Rattle.ocl_parser.specs.Moves.{Move, Reduced, move, to, refused, from_to, base_of, subtree_of, with_postfix, path_of, extended, chained, reduced, operator_on, close_by, ended_by, none_in_parentheses, none_in_braces, operand, after, after_path, path_by, on_path, dotted, arrow_call, arrow_first, arrow_second, class_path, type_begin, type_end, type_path, on_name, on_colon, on_brace, on_type_parenthesis, on_arrow_parenthesis, open_levels, state_levels}
use Rattle.ql_lex.specs.declared.symbol.Symbol.{Symbol}
use Rattle.ql_lex.specs.declared.symbol.Symbol.TheVariants as symbols
use Rattle.ocl_parser.specs.declared.frame.Subtree.{Subtree}
use Rattle.ocl_parser.specs.declared.frame.Base.{Base}
use Rattle.ocl_parser.specs.declared.frame.Before.TheVariants as before
use Rattle.ocl_parser.specs.declared.frame.CallHead.{CallHead}
use Rattle.ocl_parser.specs.declared.frame.Iterated.{Iterated}
use Rattle.ocl_parser.specs.declared.frame.Frame.{Frame}
use Rattle.ocl_parser.specs.declared.frame.Frame.TheVariants as frames
use Rattle.ocl_parser.specs.declared.state.State.{State}
use Rattle.ocl_parser.specs.declared.state.State.TheVariants as states
use Rattle.ocl_parser.specs.declared.state.Action.TheVariants as actions
use Rattle.ocl_parser.proofs.SymbolLaws.{test_of, tested, symbol_is}

-- the symbols that open a level, where they begin or go on with a part of an expression
abbrev pub is_opener : Symbol → Bool
is_opener symbols.Let = true
is_opener symbols.If = true
is_opener symbols.Not = true
is_opener symbols.OpenParenthesis = true
is_opener symbols.OpenBrace = true
is_opener (symbols.Operator operators.Minus) = true
is_opener symbol = false

-- ---- the tokens of these symbols

first_is : (a b c d e f : Bool) → a ≡ true → (a || b || c || d || e || f) ≡ true
first_is a b c d e f h = grind arith

second_is : (a b c d e f : Bool) → b ≡ true → (a || b || c || d || e || f) ≡ true
second_is a b c d e f h = grind arith

third_is : (a b c d e f : Bool) → c ≡ true → (a || b || c || d || e || f) ≡ true
third_is a b c d e f h = grind arith

fourth_is : (a b c d e f : Bool) → d ≡ true → (a || b || c || d || e || f) ≡ true
fourth_is a b c d e f h = grind arith

fifth_is : (a b c d e f : Bool) → e ≡ true → (a || b || c || d || e || f) ≡ true
fifth_is a b c d e f h = grind arith

sixth_is : (a b c d e f : Bool) → f ≡ true → (a || b || c || d || e || f) ≡ true
sixth_is a b c d e f h = grind arith

one_is : (a b c d e f p : Bool) → (a ≡ true → p ≡ true) → (b ≡ true → p ≡ true) → (c ≡ true → p ≡ true) → (d ≡ true → p ≡ true) → (e ≡ true → p ≡ true) → (f ≡ true → p ≡ true) → (a || b || c || d || e || f) ≡ true → p ≡ true
one_is true b c d e f p u v w x y z h = u refl
one_is false true c d e f p u v w x y z h = v refl
one_is false false true d e f p u v w x y z h = w refl
one_is false false false true e f p u v w x y z h = x refl
one_is false false false false true f p u v w x y z h = y refl
one_is false false false false false true p u v w x y z h = z refl
one_is false false false false false false p u v w x y z h = cc

opener_passes : (s : Symbol) (l : Lexeme) → is_opener s ≡ true → test_of s l ≡ true → opens l ≡ true
opener_passes symbols.OpenParenthesis l o t = first_is (is_sign (codes "(") l) (is_sign (codes "{") l) (is_sign (codes "-") l) (is_word (codes "let") l) (is_word (codes "if") l) (is_word (codes "not") l) t
opener_passes symbols.OpenBrace l o t = second_is (is_sign (codes "(") l) (is_sign (codes "{") l) (is_sign (codes "-") l) (is_word (codes "let") l) (is_word (codes "if") l) (is_word (codes "not") l) t
opener_passes (symbols.Operator operators.Minus) l o t = third_is (is_sign (codes "(") l) (is_sign (codes "{") l) (is_sign (codes "-") l) (is_word (codes "let") l) (is_word (codes "if") l) (is_word (codes "not") l) t
opener_passes symbols.Let l o t = fourth_is (is_sign (codes "(") l) (is_sign (codes "{") l) (is_sign (codes "-") l) (is_word (codes "let") l) (is_word (codes "if") l) (is_word (codes "not") l) t
opener_passes symbols.If l o t = fifth_is (is_sign (codes "(") l) (is_sign (codes "{") l) (is_sign (codes "-") l) (is_word (codes "let") l) (is_word (codes "if") l) (is_word (codes "not") l) t
opener_passes symbols.Not l o t = sixth_is (is_sign (codes "(") l) (is_sign (codes "{") l) (is_sign (codes "-") l) (is_word (codes "let") l) (is_word (codes "if") l) (is_word (codes "not") l) t
opener_passes s l o t = cc

pub opener_opens : (l : Lexeme) → is_opener (symbol_of l) ≡ true → opens l ≡ true
opener_opens l o = opener_passes (symbol_of l) l o (tested l)

pub opens_opener : (l : Lexeme) → opens l ≡ true → is_opener (symbol_of l) ≡ true
opens_opener l h =
    one_is (is_sign (codes "(") l) (is_sign (codes "{") l) (is_sign (codes "-") l) (is_word (codes "let") l) (is_word (codes "if") l) (is_word (codes "not") l) (is_opener (symbol_of l))
    (λ t. ap is_opener (symbol_is symbols.OpenParenthesis l refl t)) (λ t. ap is_opener (symbol_is symbols.OpenBrace l refl t)) (λ t. ap is_opener (symbol_is (symbols.Operator operators.Minus) l refl t))
    (λ t. ap is_opener (symbol_is symbols.Let l refl t)) (λ t. ap is_opener (symbol_is symbols.If l refl t)) (λ t. ap is_opener (symbol_is symbols.Not l refl t)) h

-- ---- no other symbol opens one

-- the levels that are open behind what is read
abbrev pub taken : Move → ℕ
taken m = elim m.action [ actions.Read next ↦ open_levels m.stack + state_levels next | actions.Whole tree ↦ 0 | actions.Refused ↦ 0 ]

none_taken : (bound : ℕ) → 0 ≤ bound
none_taken bound = omega arith

taken_both : (bound : ℕ) (b : Bool) (x y : Move) → taken x ≤ bound → taken y ≤ bound → taken (if b then x else y) ≤ bound
taken_both bound true x y h k = h
taken_both bound false x y h k = k

reduced_both : (bound : ℕ) (b : Bool) (x y : Reduced) → open_levels x.stack ≤ bound → open_levels y.stack ≤ bound → open_levels (if b then x else y).stack ≤ bound
reduced_both bound true x y h k = h
reduced_both bound false x y h k = k

reduced_within : (bound level : ℕ) (stack : List Frame) (subtree : Subtree) → open_levels stack ≤ bound → open_levels (reduced level stack subtree).stack ≤ bound
unfolding reduced
reduced_within bound level [] subtree h = h
reduced_within bound level (frames.Not start ∷ stack) subtree h = reduced_within bound level stack _ (omega arith)
reduced_within bound level (frames.Negated start ∷ stack) subtree h = reduced_within bound level stack _ (omega arith)
reduced_within bound level (frames.Row first rest operator ∷ stack) subtree h =
    reduced_both bound (nat_le level (level_of operator)) (reduced level stack (chained first rest operator subtree)) _ (reduced_within bound level stack (chained first rest operator subtree) (omega arith)) h
reduced_within bound level (frames.In start name ty value ∷ stack) subtree h =
    let whole : Subtree = record { tree = exprs.Let name ty value subtree.tree (from_to start subtree.span.end); span = from_to start subtree.span.end } in
    reduced_both bound (level == 0) (reduced level stack whole) _ (reduced_within bound level stack whole (omega arith)) h
reduced_within bound level (frame ∷ stack) subtree h = h

close_within : (bound : ℕ) (stack : List Frame) (subtree : Subtree) (symbol : Symbol) (span : Span) → open_levels stack ≤ bound → taken (close_by stack subtree symbol span) ≤ bound
close_within bound [] subtree symbol span h = none_taken bound
close_within bound (frames.Parens start ∷ stack) subtree symbols.CloseParenthesis span h = omega arith
close_within bound (frames.Arguments called values ∷ stack) subtree symbols.CloseParenthesis span h = omega arith
close_within bound (frames.Arguments called values ∷ stack) subtree symbols.Comma span h = omega arith
close_within bound (frames.Elements start kind elements ∷ stack) subtree symbols.CloseBrace span h = omega arith
close_within bound (frames.Elements start kind elements ∷ stack) subtree symbols.Comma span h = omega arith
close_within bound (frames.Body it ty ∷ stack) subtree symbols.CloseParenthesis span h = omega arith
close_within bound (frames.If start ∷ stack) subtree symbols.Then span h = omega arith
close_within bound (frames.Then start condition ∷ stack) subtree symbols.Else span h = omega arith
close_within bound (frames.Else start condition one ∷ stack) subtree symbols.Endif span h = omega arith
close_within bound (frames.Let start name ty ∷ stack) subtree symbols.In span h = omega arith
close_within bound (frame ∷ stack) subtree symbol span h = none_taken bound

same_taken : (bound n : ℕ) → n ≤ bound → n + 0 ≤ bound
same_taken bound n h = omega arith

row_taken : (bound n : ℕ) → n ≤ bound → 0 + n + 0 ≤ bound
row_taken bound n h = omega arith

two_rows_taken : (bound n : ℕ) → 0 + n ≤ bound → 0 + (0 + n) + 0 ≤ bound
two_rows_taken bound n h = omega arith

one_row_taken : (bound n : ℕ) → 0 + n ≤ bound → 0 + n + 0 ≤ bound
one_row_taken bound n h = omega arith

operator_within : (bound : ℕ) (operator : Operator) (stack : List Frame) (subtree : Subtree) → open_levels stack ≤ bound → taken (operator_on operator stack subtree) ≤ bound
operator_within bound operator (frames.Row first rest waiting ∷ stack) subtree h =
    taken_both bound (level_of waiting == level_of operator) _ _ (one_row_taken bound (open_levels stack) h) (two_rows_taken bound (open_levels stack) h)
operator_within bound operator stack subtree h = row_taken bound _ h

behind_within : (bound : ℕ) (stack : List Frame) (subtree : Subtree) (symbol : Symbol) (span : Span) → open_levels stack ≤ bound → taken (ended_by stack subtree symbol span) ≤ bound
behind_within bound stack subtree (symbols.Operator operator) span h =
    let s : Reduced = reduced (level_of operator + 1) stack subtree in
    operator_within bound operator s.stack s.subtree (reduced_within bound (level_of operator + 1) stack subtree h)
behind_within bound stack subtree symbol span h =
    let s : Reduced = reduced 0 stack subtree in
    close_within bound s.stack s.subtree symbol span (reduced_within bound 0 stack subtree h)

none_parentheses_within : (bound : ℕ) (stack : List Frame) (end : ℕ) → open_levels stack ≤ bound → taken (none_in_parentheses stack end) ≤ bound
none_parentheses_within bound (frames.Arguments called [] ∷ stack) end h = omega arith
none_parentheses_within bound stack end h = none_taken bound

none_braces_within : (bound : ℕ) (stack : List Frame) (end : ℕ) → open_levels stack ≤ bound → taken (none_in_braces stack end) ≤ bound
none_braces_within bound (frames.Elements start kind [] ∷ stack) end h = omega arith
none_braces_within bound stack end h = none_taken bound

operand_within : (bound : ℕ) (stack : List Frame) (symbol : Symbol) (span : Span) → is_opener symbol ≡ false → open_levels stack ≤ bound → taken (operand stack symbol span) ≤ bound
operand_within bound stack symbols.Let span o h = cc
operand_within bound stack symbols.If span o h = cc
operand_within bound stack symbols.Not span o h = cc
operand_within bound stack (symbols.Operator operators.Minus) span o h = cc
operand_within bound stack symbols.OpenParenthesis span o h = cc
operand_within bound stack symbols.Null span o h = same_taken bound (open_levels stack) h
operand_within bound stack symbols.Invalid span o h = same_taken bound (open_levels stack) h
operand_within bound stack (symbols.Bool value) span o h = same_taken bound (open_levels stack) h
operand_within bound stack (symbols.Number value) span o h = same_taken bound (open_levels stack) h
operand_within bound stack (symbols.Str value) span o h = same_taken bound (open_levels stack) h
operand_within bound stack (symbols.Name name) span o h = same_taken bound (open_levels stack) h
operand_within bound stack (symbols.Kind kind) span o h = same_taken bound (open_levels stack) h
operand_within bound stack symbols.CloseParenthesis span o h = none_parentheses_within bound stack span.end h
operand_within bound stack symbols.CloseBrace span o h = none_braces_within bound stack span.end h
operand_within bound stack symbol span o h = none_taken bound

after_within : (bound : ℕ) (stack : List Frame) (base : Base) (symbol : Symbol) (span : Span) → open_levels stack ≤ bound → taken (after stack base symbol span) ≤ bound
after_within bound stack base symbols.Dot span h = same_taken bound (open_levels stack) h
after_within bound stack base symbols.Arrow span h = same_taken bound (open_levels stack) h
after_within bound stack base symbol span h = behind_within bound stack (subtree_of base) symbol span h

after_path_within : (bound : ℕ) (stack : List Frame) (path : Path) (symbol : Symbol) (span : Span) → open_levels stack ≤ bound → taken (after_path stack path symbol span) ≤ bound
after_path_within bound stack path symbol span h = after_within bound stack (base_of (exprs.Named path) path.span) symbol span h

path_within : (bound : ℕ) (names : List Name) (stack : List Frame) (path : Path) (symbol : Symbol) (span : Span) → is_opener symbol ≡ false → open_levels stack ≤ bound → taken (path_by names stack path symbol span) ≤ bound
path_within bound (name ∷ []) stack path symbols.OpenParenthesis span o h = cc
path_within bound names stack path symbols.DoubleColon span o h =
    taken_both bound (nat_lt (length names) 3) (to stack (states.PathName path)) (after_path stack path symbols.DoubleColon span) (same_taken bound (open_levels stack) h) (after_path_within bound stack path symbols.DoubleColon span h)
path_within bound names stack path symbol span o h = after_path_within bound stack path symbol span h

dotted_within : (bound : ℕ) (stack : List Frame) (base : Base) (start : ℕ) (name : Name) (symbol : Symbol) (span : Span) → is_opener symbol ≡ false → open_levels stack ≤ bound → taken (dotted stack base start name symbol span) ≤ bound
dotted_within bound stack base start name symbols.OpenParenthesis span o h = cc
dotted_within bound stack base start name symbol span o h = after_within bound stack (with_postfix base (postfixes.Property name) name.span.end) symbol span h

class_path_within : (bound : ℕ) (stack : List Frame) (called : CallHead) (path : Path) (symbol : Symbol) (span : Span) → open_levels stack + 1 ≤ bound → taken (class_path stack called path symbol span) ≤ bound
class_path_within bound stack called path symbols.DoubleColon span h = taken_both bound (nat_lt (length path.names) 2) (to stack (states.ClassNext called path)) (refused stack) h (none_taken bound)
class_path_within bound stack called path symbols.CloseParenthesis span h = omega arith
class_path_within bound stack called path symbol span h = none_taken bound

inside_taken : (bound n : ℕ) → n + 1 ≤ bound → 1 + n ≤ bound
inside_taken bound n h = omega arith

arrow_first_within : (bound : ℕ) (stack : List Frame) (base : Base) (start : ℕ) (name : Name) (symbol : Symbol) (span : Span) → is_opener symbol ≡ false → open_levels stack + 1 ≤ bound
    → taken (arrow_first stack base start name symbol span) ≤ bound
arrow_first_within bound stack base start name (symbols.Name variable) span o h = h
arrow_first_within bound stack base start name symbol span o h =
    taken_both bound (takes_class name.text) (refused stack) _ (none_taken bound)
    (operand_within bound (frames.Arguments (record { before = before.Arrow base start; name = name }) [] ∷ stack) symbol span o (inside_taken bound (open_levels stack) h))

arrow_second_within : (bound : ℕ) (stack : List Frame) (it : Iterated) (symbol : Symbol) (span : Span) → is_opener symbol ≡ false → open_levels stack + 1 ≤ bound → taken (arrow_second stack it symbol span) ≤ bound
arrow_second_within bound stack it symbols.Colon span o h = omega arith
arrow_second_within bound stack it symbols.Bar span o h = omega arith
arrow_second_within bound stack it symbol span o h =
    taken_both bound (takes_class it.name.text) (class_path stack (arrow_call it) (path_of it.variable) symbol span) (on_path (frames.Arguments (arrow_call it) [] ∷ stack) (path_of it.variable) symbol span)
    (class_path_within bound stack (arrow_call it) (path_of it.variable) symbol span h)
    (path_within bound (it.variable ∷ []) (frames.Arguments (arrow_call it) [] ∷ stack) (path_of it.variable) symbol span o (inside_taken bound (open_levels stack) h))

type_begin_within : (bound : ℕ) (stack : List Frame) (symbol : Symbol) (span : Span) → open_levels stack ≤ bound → taken (type_begin stack symbol span) ≤ bound
type_begin_within bound stack (symbols.Plain ty) span h = same_taken bound (open_levels stack) h
type_begin_within bound stack (symbols.Kind kind) span h = same_taken bound (open_levels stack) h
type_begin_within bound stack (symbols.Name name) span h = same_taken bound (open_levels stack) h
type_begin_within bound stack symbol span h = none_taken bound

type_end_within : (bound : ℕ) (stack : List Frame) (ty : TypeTree) (symbol : Symbol) (span : Span) → open_levels stack ≤ bound → taken (type_end stack ty symbol span) ≤ bound
type_end_within bound (frames.OfKind start kind ∷ stack) ty symbols.CloseParenthesis span h = omega arith
type_end_within bound (frames.LetType start name ∷ stack) ty (symbols.Operator operators.Equal) span h = omega arith
type_end_within bound (frames.VariableType it ∷ stack) ty symbols.Bar span h = omega arith
type_end_within bound stack ty symbol span h = none_taken bound

type_path_within : (bound : ℕ) (stack : List Frame) (path : Path) (symbol : Symbol) (span : Span) → open_levels stack ≤ bound → taken (type_path stack path symbol span) ≤ bound
type_path_within bound stack path symbols.DoubleColon span h =
    taken_both bound (nat_lt (length path.names) 2) (to stack (states.TypeName path)) (type_end stack (types.Named path) symbols.DoubleColon span) (same_taken bound (open_levels stack) h)
    (type_end_within bound stack (types.Named path) symbols.DoubleColon span h)
type_path_within bound stack path symbol span h = type_end_within bound stack (types.Named path) symbol span h

name_within : (bound : ℕ) (stack : List Frame) (next : Name → State) (symbol : Symbol) → ((n : Name) → open_levels stack + state_levels (next n) ≤ bound) → taken (on_name stack next symbol) ≤ bound
name_within bound stack next (symbols.Name name) h = h name
name_within bound stack next symbol h = none_taken bound

colon_within : (bound : ℕ) (stack : List Frame) (start : ℕ) (name : Name) (symbol : Symbol) → open_levels stack + 1 ≤ bound → taken (on_colon stack start name symbol) ≤ bound
colon_within bound stack start name symbols.Colon h = omega arith
colon_within bound stack start name symbol h = none_taken bound

brace_within : (bound : ℕ) (stack : List Frame) (start : ℕ) (kind : Kind) (symbol : Symbol) → is_opener symbol ≡ false → taken (on_brace stack start kind symbol) ≤ bound
brace_within bound stack start kind symbols.OpenBrace o = cc
brace_within bound stack start kind symbol o = none_taken bound

type_parenthesis_within : (bound : ℕ) (stack : List Frame) (start : ℕ) (kind : Kind) (symbol : Symbol) → is_opener symbol ≡ false → taken (on_type_parenthesis stack start kind symbol) ≤ bound
type_parenthesis_within bound stack start kind symbols.OpenParenthesis o = cc
type_parenthesis_within bound stack start kind symbol o = none_taken bound

arrow_parenthesis_within : (bound : ℕ) (stack : List Frame) (base : Base) (start : ℕ) (name : Name) (symbol : Symbol) → is_opener symbol ≡ false → taken (on_arrow_parenthesis stack base start name symbol) ≤ bound
arrow_parenthesis_within bound stack base start name symbols.OpenParenthesis o = cc
arrow_parenthesis_within bound stack base start name symbol o = none_taken bound

same_open : (bound n : ℕ) → n + 0 ≤ bound → n ≤ bound
same_open bound n h = omega arith

pub move_within : (bound : ℕ) (stack : List Frame) (state : State) (symbol : Symbol) (span : Span) → is_opener symbol ≡ false → open_levels stack + state_levels state ≤ bound → taken (move stack state symbol span) ≤ bound
unfolding move
move_within bound stack states.Operand symbol span o h = operand_within bound stack symbol span o (same_open bound (open_levels stack) h)
move_within bound stack (states.After base) symbol span o h = after_within bound stack base symbol span (same_open bound (open_levels stack) h)
move_within bound stack (states.Path path) symbol span o h = path_within bound path.names stack path symbol span o (same_open bound (open_levels stack) h)
move_within bound stack (states.PathName path) symbol span o h = name_within bound stack (λ n. states.Path (extended path n)) symbol (λ n. h)
move_within bound stack (states.LetName start) symbol span o h = name_within bound stack (λ n. states.LetColon start n) symbol (λ n. h)
move_within bound stack (states.LetColon start name) symbol span o h = colon_within bound stack start name symbol h
move_within bound stack states.Type symbol span o h = type_begin_within bound stack symbol span (same_open bound (open_levels stack) h)
move_within bound stack (states.TypeParenthesis start kind) symbol span o h = type_parenthesis_within bound stack start kind symbol o
move_within bound stack (states.TypePath path) symbol span o h = type_path_within bound stack path symbol span (same_open bound (open_levels stack) h)
move_within bound stack (states.TypeName path) symbol span o h = name_within bound stack (λ n. states.TypePath (extended path n)) symbol (λ n. h)
move_within bound stack (states.TypeEnd ty) symbol span o h = type_end_within bound stack ty symbol span (same_open bound (open_levels stack) h)
move_within bound stack (states.Brace start kind) symbol span o h = brace_within bound stack start kind symbol o
move_within bound stack (states.DotName base start) symbol span o h = name_within bound stack (λ n. states.Dotted base start n) symbol (λ n. h)
move_within bound stack (states.Dotted base start name) symbol span o h = dotted_within bound stack base start name symbol span o (same_open bound (open_levels stack) h)
move_within bound stack (states.ArrowName base start) symbol span o h = name_within bound stack (λ n. states.ArrowParenthesis base start n) symbol (λ n. h)
move_within bound stack (states.ArrowParenthesis base start name) symbol span o h = arrow_parenthesis_within bound stack base start name symbol o
move_within bound stack (states.ArrowFirst base start name) symbol span o h = arrow_first_within bound stack base start name symbol span o h
move_within bound stack (states.ArrowSecond it) symbol span o h = arrow_second_within bound stack it symbol span o h
move_within bound stack (states.ClassName called) symbol span o h = name_within bound stack (λ n. states.ClassPath called (path_of n)) symbol (λ n. h)
move_within bound stack (states.ClassPath called path) symbol span o h = class_path_within bound stack called path symbol span h
move_within bound stack (states.ClassNext called path) symbol span o h = name_within bound stack (λ n. states.ClassPath called (extended path n)) symbol (λ n. h)
