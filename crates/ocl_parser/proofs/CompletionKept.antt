-- Which constructs stand below which state: so it stays when a symbol is read.
use Rattle.std.proofs.Common.{◌≡◌, ℕ, ◌+◌, ◌==◌, nat_lt, nat_le, Bool, true, false, if◌then◌else◌, List, [], ◌∷◌, length, refl}
use Rattle.mof_metamodel.specs.declared.span.Span.{Span}
use Rattle.qv_syntax.specs.declared.name.Name.{Name}
use Rattle.qv_syntax.specs.declared.name.Path.{Path}
use Rattle.qv_syntax.specs.declared.operator.Operator.{Operator}
use Rattle.qv_syntax.specs.declared.operator.Operator.TheVariants as operators
use Rattle.qv_syntax.specs.declared.type_tree.Kind.{Kind}
use Rattle.qv_syntax.specs.declared.type_tree.TypeTree.{TypeTree}
use Rattle.qv_syntax.specs.declared.type_tree.TypeTree.TheVariants as types
use Rattle.qv_syntax.specs.declared.expr.Expr.TheVariants as exprs
use Rattle.qv_syntax.specs.declared.expr.Postfix.TheVariants as postfixes
use Rattle.qv_syntax.specs.Operators.{level_of}
use Rattle.ocl_parser.specs.Grammar.{takes_class}
use Rattle.ocl_parser.specs.Moves.{Move, Reduced, move, to, refused, from_to, base_of, subtree_of, with_postfix, path_of, extended, chained, reduced, operator_on, close_by, ended_by, begins_expression, none_in_parentheses, none_in_braces, operand, after, arguments, after_path, path_by, on_path, dotted, call_of, arrow_call, arrow_first, arrow_second, class_path, type_begin, type_end, type_path, on_name, on_colon, on_brace, on_type_parenthesis, on_arrow_parenthesis}
use Rattle.ocl_parser.specs.Completion.{are_expressions, is_type, is_open}
use Rattle.ql_lex.specs.declared.symbol.Symbol.{Symbol}
use Rattle.ql_lex.specs.declared.symbol.Symbol.TheVariants as symbols
use Rattle.ocl_parser.specs.declared.frame.Subtree.{Subtree}
use Rattle.ocl_parser.specs.declared.frame.Base.{Base}
use Rattle.ocl_parser.specs.declared.frame.Before.TheVariants as before
use Rattle.ocl_parser.specs.declared.frame.CallHead.{CallHead}
use Rattle.ocl_parser.specs.declared.frame.Iterated.{Iterated}
use Rattle.ocl_parser.specs.declared.frame.Frame.{Frame}
use Rattle.ocl_parser.specs.declared.frame.Frame.TheVariants as frames
use Rattle.ocl_parser.specs.declared.state.State.{State}
use Rattle.ocl_parser.specs.declared.state.State.TheVariants as states
use Rattle.ocl_parser.specs.declared.state.Action.TheVariants as actions

-- what is read stands in order
abbrev pub is_kept : Move → Bool
is_kept m = elim m.action [ actions.Read next ↦ is_open m.stack next | actions.Whole tree ↦ true | actions.Refused ↦ true ]

kept_both : (b : Bool) (x y : Move) → is_kept x ≡ true → is_kept y ≡ true → is_kept (if b then x else y) ≡ true
kept_both true x y h k = h
kept_both false x y h k = k

-- ---- operands that end

reduced_both : (b : Bool) (x y : Reduced) → are_expressions x.stack ≡ true → are_expressions y.stack ≡ true → are_expressions (if b then x else y).stack ≡ true
reduced_both true x y h k = h
reduced_both false x y h k = k

pub reduced_plain : (level : ℕ) (stack : List Frame) (subtree : Subtree) → are_expressions stack ≡ true → are_expressions (reduced level stack subtree).stack ≡ true
unfolding reduced
reduced_plain level [] subtree h = refl
reduced_plain level (frames.Not start ∷ stack) subtree h = reduced_plain level stack _ h
reduced_plain level (frames.Negated start ∷ stack) subtree h = reduced_plain level stack _ h
reduced_plain level (frames.Row first rest operator ∷ stack) subtree h =
    reduced_both (nat_le level (level_of operator)) (reduced level stack (chained first rest operator subtree)) _ (reduced_plain level stack (chained first rest operator subtree) h) h
reduced_plain level (frames.In start name ty value ∷ stack) subtree h =
    let whole : Subtree = record { tree = exprs.Let name ty value subtree.tree (from_to start subtree.span.end); span = from_to start subtree.span.end } in
    reduced_both (level == 0) (reduced level stack whole) _ (reduced_plain level stack whole h) h
reduced_plain level (frame ∷ stack) subtree h = h

close_kept : (stack : List Frame) (subtree : Subtree) (symbol : Symbol) (span : Span) → are_expressions stack ≡ true → is_kept (close_by stack subtree symbol span) ≡ true
close_kept [] subtree symbol span h = refl
close_kept (frames.Parens start ∷ stack) subtree symbols.CloseParenthesis span h = h
close_kept (frames.Arguments called values ∷ stack) subtree symbols.CloseParenthesis span h = h
close_kept (frames.Arguments called values ∷ stack) subtree symbols.Comma span h = h
close_kept (frames.Elements start kind elements ∷ stack) subtree symbols.CloseBrace span h = h
close_kept (frames.Elements start kind elements ∷ stack) subtree symbols.Comma span h = h
close_kept (frames.Body it ty ∷ stack) subtree symbols.CloseParenthesis span h = h
close_kept (frames.If start ∷ stack) subtree symbols.Then span h = h
close_kept (frames.Then start condition ∷ stack) subtree symbols.Else span h = h
close_kept (frames.Else start condition one ∷ stack) subtree symbols.Endif span h = h
close_kept (frames.Let start name ty ∷ stack) subtree symbols.In span h = h
close_kept (frame ∷ stack) subtree symbol span h = refl

operator_kept : (operator : Operator) (stack : List Frame) (subtree : Subtree) → are_expressions stack ≡ true → is_kept (operator_on operator stack subtree) ≡ true
operator_kept operator (frames.Row first rest waiting ∷ stack) subtree h = kept_both (level_of waiting == level_of operator) _ _ h h
operator_kept operator stack subtree h = h

behind_kept : (stack : List Frame) (subtree : Subtree) (symbol : Symbol) (span : Span) → are_expressions stack ≡ true → is_kept (ended_by stack subtree symbol span) ≡ true
behind_kept stack subtree (symbols.Operator operator) span h =
    let s : Reduced = reduced (level_of operator + 1) stack subtree in
    operator_kept operator s.stack s.subtree (reduced_plain (level_of operator + 1) stack subtree h)
behind_kept stack subtree symbol span h =
    let s : Reduced = reduced 0 stack subtree in
    close_kept s.stack s.subtree symbol span (reduced_plain 0 stack subtree h)

-- ---- operands that begin or go on

none_parentheses_kept : (stack : List Frame) (end : ℕ) → are_expressions stack ≡ true → is_kept (none_in_parentheses stack end) ≡ true
none_parentheses_kept (frames.Arguments called [] ∷ stack) end h = h
none_parentheses_kept stack end h = refl

none_braces_kept : (stack : List Frame) (end : ℕ) → are_expressions stack ≡ true → is_kept (none_in_braces stack end) ≡ true
none_braces_kept (frames.Elements start kind [] ∷ stack) end h = h
none_braces_kept stack end h = refl

operand_kept : (stack : List Frame) (symbol : Symbol) (span : Span) → are_expressions stack ≡ true → is_kept (operand stack symbol span) ≡ true
operand_kept stack symbols.Let span h = kept_both (begins_expression stack) (to stack (states.LetName span.start)) (refused stack) h refl
operand_kept stack symbols.If span h = h
operand_kept stack symbols.Not span h = h
operand_kept stack (symbols.Operator operators.Minus) span h = h
operand_kept stack symbols.OpenParenthesis span h = h
operand_kept stack symbols.Null span h = h
operand_kept stack symbols.Invalid span h = h
operand_kept stack (symbols.Bool value) span h = h
operand_kept stack (symbols.Number value) span h = h
operand_kept stack (symbols.Str value) span h = h
operand_kept stack (symbols.Name name) span h = h
operand_kept stack (symbols.Kind kind) span h = h
operand_kept stack symbols.CloseParenthesis span h = none_parentheses_kept stack span.end h
operand_kept stack symbols.CloseBrace span h = none_braces_kept stack span.end h
operand_kept stack symbol span h = refl

after_kept : (stack : List Frame) (base : Base) (symbol : Symbol) (span : Span) → are_expressions stack ≡ true → is_kept (after stack base symbol span) ≡ true
after_kept stack base symbols.Dot span h = h
after_kept stack base symbols.Arrow span h = h
after_kept stack base symbol span h = behind_kept stack (subtree_of base) symbol span h

arguments_kept : (stack : List Frame) (called : CallHead) → are_expressions stack ≡ true → is_kept (arguments stack called) ≡ true
arguments_kept stack called h = kept_both (takes_class called.name.text) _ _ h h

after_path_kept : (stack : List Frame) (path : Path) (symbol : Symbol) (span : Span) → are_expressions stack ≡ true → is_kept (after_path stack path symbol span) ≡ true
after_path_kept stack path symbol span h = after_kept stack (base_of (exprs.Named path) path.span) symbol span h

path_kept : (names : List Name) (stack : List Frame) (path : Path) (symbol : Symbol) (span : Span) → are_expressions stack ≡ true → is_kept (path_by names stack path symbol span) ≡ true
path_kept (name ∷ []) stack path symbols.OpenParenthesis span h = arguments_kept stack (call_of name) h
path_kept names stack path symbols.DoubleColon span h =
    kept_both (nat_lt (length names) 3) (to stack (states.PathName path)) (after_path stack path symbols.DoubleColon span) h (after_path_kept stack path symbols.DoubleColon span h)
path_kept names stack path symbol span h = after_path_kept stack path symbol span h

dotted_kept : (stack : List Frame) (base : Base) (start : ℕ) (name : Name) (symbol : Symbol) (span : Span) → are_expressions stack ≡ true → is_kept (dotted stack base start name symbol span) ≡ true
dotted_kept stack base start name symbols.OpenParenthesis span h = arguments_kept stack (record { before = before.Dot base start; name = name }) h
dotted_kept stack base start name symbol span h = after_kept stack (with_postfix base (postfixes.Property name) name.span.end) symbol span h

class_path_kept : (stack : List Frame) (called : CallHead) (path : Path) (symbol : Symbol) (span : Span) → are_expressions stack ≡ true → is_kept (class_path stack called path symbol span) ≡ true
class_path_kept stack called path symbols.DoubleColon span h = kept_both (nat_lt (length path.names) 2) (to stack (states.ClassNext called path)) (refused stack) h refl
class_path_kept stack called path symbols.CloseParenthesis span h = h
class_path_kept stack called path symbol span h = refl

arrow_first_kept : (stack : List Frame) (base : Base) (start : ℕ) (name : Name) (symbol : Symbol) (span : Span) → are_expressions stack ≡ true → is_kept (arrow_first stack base start name symbol span) ≡ true
arrow_first_kept stack base start name (symbols.Name variable) span h = h
arrow_first_kept stack base start name symbol span h =
    kept_both (takes_class name.text) (refused stack) _ refl (operand_kept (frames.Arguments (record { before = before.Arrow base start; name = name }) [] ∷ stack) symbol span h)

arrow_second_kept : (stack : List Frame) (it : Iterated) (symbol : Symbol) (span : Span) → are_expressions stack ≡ true → is_kept (arrow_second stack it symbol span) ≡ true
arrow_second_kept stack it symbols.Colon span h = h
arrow_second_kept stack it symbols.Bar span h = h
arrow_second_kept stack it symbol span h =
    kept_both (takes_class it.name.text) (class_path stack (arrow_call it) (path_of it.variable) symbol span) (on_path (frames.Arguments (arrow_call it) [] ∷ stack) (path_of it.variable) symbol span)
    (class_path_kept stack (arrow_call it) (path_of it.variable) symbol span h)
    (path_kept (it.variable ∷ []) (frames.Arguments (arrow_call it) [] ∷ stack) (path_of it.variable) symbol span h)

-- ---- types

type_begin_kept : (stack : List Frame) (symbol : Symbol) (span : Span) → is_type stack ≡ true → is_kept (type_begin stack symbol span) ≡ true
type_begin_kept stack (symbols.Plain ty) span h = h
type_begin_kept stack (symbols.Kind kind) span h = h
type_begin_kept stack (symbols.Name name) span h = h
type_begin_kept stack symbol span h = refl

type_end_kept : (stack : List Frame) (ty : TypeTree) (symbol : Symbol) (span : Span) → is_type stack ≡ true → is_kept (type_end stack ty symbol span) ≡ true
type_end_kept (frames.OfKind start kind ∷ stack) ty symbols.CloseParenthesis span h = h
type_end_kept (frames.LetType start name ∷ stack) ty (symbols.Operator operators.Equal) span h = h
type_end_kept (frames.VariableType it ∷ stack) ty symbols.Bar span h = h
type_end_kept stack ty symbol span h = refl

type_path_kept : (stack : List Frame) (path : Path) (symbol : Symbol) (span : Span) → is_type stack ≡ true → is_kept (type_path stack path symbol span) ≡ true
type_path_kept stack path symbols.DoubleColon span h =
    kept_both (nat_lt (length path.names) 2) (to stack (states.TypeName path)) (type_end stack (types.Named path) symbols.DoubleColon span) h (type_end_kept stack (types.Named path) symbols.DoubleColon span h)
type_path_kept stack path symbol span h = type_end_kept stack (types.Named path) symbol span h

-- ---- all states

name_kept : (stack : List Frame) (next : Name → State) (symbol : Symbol) → ((n : Name) → is_open stack (next n) ≡ true) → is_kept (on_name stack next symbol) ≡ true
name_kept stack next (symbols.Name name) h = h name
name_kept stack next symbol h = refl

colon_kept : (stack : List Frame) (start : ℕ) (name : Name) (symbol : Symbol) → are_expressions stack ≡ true → is_kept (on_colon stack start name symbol) ≡ true
colon_kept stack start name symbols.Colon h = h
colon_kept stack start name symbol h = refl

brace_kept : (stack : List Frame) (start : ℕ) (kind : Kind) (symbol : Symbol) → are_expressions stack ≡ true → is_kept (on_brace stack start kind symbol) ≡ true
brace_kept stack start kind symbols.OpenBrace h = h
brace_kept stack start kind symbol h = refl

type_parenthesis_kept : (stack : List Frame) (start : ℕ) (kind : Kind) (symbol : Symbol) → is_type stack ≡ true → is_kept (on_type_parenthesis stack start kind symbol) ≡ true
type_parenthesis_kept stack start kind symbols.OpenParenthesis h = h
type_parenthesis_kept stack start kind symbol h = refl

arrow_parenthesis_kept : (stack : List Frame) (base : Base) (start : ℕ) (name : Name) (symbol : Symbol) → are_expressions stack ≡ true → is_kept (on_arrow_parenthesis stack base start name symbol) ≡ true
arrow_parenthesis_kept stack base start name symbols.OpenParenthesis h = h
arrow_parenthesis_kept stack base start name symbol h = refl

pub move_kept : (stack : List Frame) (state : State) (symbol : Symbol) (span : Span) → is_open stack state ≡ true → is_kept (move stack state symbol span) ≡ true
unfolding move
move_kept stack states.Operand symbol span h = operand_kept stack symbol span h
move_kept stack (states.After base) symbol span h = after_kept stack base symbol span h
move_kept stack (states.Path path) symbol span h = path_kept path.names stack path symbol span h
move_kept stack (states.PathName path) symbol span h = name_kept stack (λ n. states.Path (extended path n)) symbol (λ n. h)
move_kept stack (states.LetName start) symbol span h = name_kept stack (λ n. states.LetColon start n) symbol (λ n. h)
move_kept stack (states.LetColon start name) symbol span h = colon_kept stack start name symbol h
move_kept stack states.Type symbol span h = type_begin_kept stack symbol span h
move_kept stack (states.TypeParenthesis start kind) symbol span h = type_parenthesis_kept stack start kind symbol h
move_kept stack (states.TypePath path) symbol span h = type_path_kept stack path symbol span h
move_kept stack (states.TypeName path) symbol span h = name_kept stack (λ n. states.TypePath (extended path n)) symbol (λ n. h)
move_kept stack (states.TypeEnd ty) symbol span h = type_end_kept stack ty symbol span h
move_kept stack (states.Brace start kind) symbol span h = brace_kept stack start kind symbol h
move_kept stack (states.DotName base start) symbol span h = name_kept stack (λ n. states.Dotted base start n) symbol (λ n. h)
move_kept stack (states.Dotted base start name) symbol span h = dotted_kept stack base start name symbol span h
move_kept stack (states.ArrowName base start) symbol span h = name_kept stack (λ n. states.ArrowParenthesis base start n) symbol (λ n. h)
move_kept stack (states.ArrowParenthesis base start name) symbol span h = arrow_parenthesis_kept stack base start name symbol h
move_kept stack (states.ArrowFirst base start name) symbol span h = arrow_first_kept stack base start name symbol span h
move_kept stack (states.ArrowSecond it) symbol span h = arrow_second_kept stack it symbol span h
move_kept stack (states.ClassName called) symbol span h = name_kept stack (λ n. states.ClassPath called (path_of n)) symbol (λ n. h)
move_kept stack (states.ClassPath called path) symbol span h = class_path_kept stack called path symbol span h
move_kept stack (states.ClassNext called path) symbol span h = name_kept stack (λ n. states.ClassPath called (extended path n)) symbol (λ n. h)
