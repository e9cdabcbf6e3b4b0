-- Behind a token that opens a level no other level has to be opened.
use Rattle.std.proofs.Common.{◌≡◌, ℕ, ◌+◌, ◌++◌, ◌==◌, Bool, true, false, if◌then◌else◌, List, [], ◌∷◌, refl}
use Rattle.mof_metamodel.specs.declared.span.Span.{Span}
use Rattle.qv_syntax.specs.declared.name.Name.{Name}
use Rattle.qv_syntax.specs.declared.name.Path.{Path}
use Rattle.qv_syntax.specs.declared.operator.Operator.{Operator}
use Rattle.qv_syntax.specs.declared.operator.Operator.TheVariants as operators
use Rattle.qv_syntax.specs.declared.type_tree.Kind.{Kind}
use Rattle.qv_syntax.specs.declared.type_tree.TypeTree.{TypeTree}
use Rattle.qv_syntax.specs.declared.type_tree.TypeTree.TheVariants as types
use Rattle.qv_syntax.specs.declared.expr.Expr.TheVariants as exprs
use Rattle.qv_syntax.specs.declared.expr.Postfix.TheVariants as postfixes
use Rattle.qv_syntax.specs.Operators.{level_of}
use Rattle.ocl_parser.specs.Grammar.{takes_class}
use Rattle.ocl_parser.specs.Moves.{Move, Reduced, move, to, refused, base_of, subtree_of, with_postfix, path_of, extended, reduced, operator_on, close_by, ended_by, begins_expression, operand, after, arguments, call_of, infixed, after_path, path_by, on_path, dotted, arrow_call, arrow_first, arrow_second, class_path, type_begin, type_end, type_path, on_name, on_colon, on_brace, on_type_parenthesis, on_arrow_parenthesis}
use Rattle.ocl_parser.specs.Completion.{opening_levels}
use Rattle.ql_lex.specs.declared.symbol.Symbol.{Symbol}
use Rattle.ql_lex.specs.declared.symbol.Symbol.TheVariants as symbols
use Rattle.ocl_parser.specs.declared.frame.Subtree.{Subtree}
use Rattle.ocl_parser.specs.declared.frame.Base.{Base}
use Rattle.ocl_parser.specs.declared.frame.Before.TheVariants as before
use Rattle.ocl_parser.specs.declared.frame.CallHead.{CallHead}
use Rattle.ocl_parser.specs.declared.frame.Iterated.{Iterated}
use Rattle.ocl_parser.specs.declared.frame.Frame.{Frame}
use Rattle.ocl_parser.specs.declared.frame.Frame.TheVariants as frames
use Rattle.ocl_parser.specs.declared.state.State.{State}
use Rattle.ocl_parser.specs.declared.state.State.TheVariants as states
use Rattle.ocl_parser.specs.declared.state.Action.TheVariants as actions
use Rattle.ocl_parser.proofs.CompletionLevels.{is_opener}

-- the levels that have to be opened behind what is read
abbrev pub opening : Move → ℕ
opening m = elim m.action [ actions.Read next ↦ opening_levels next | actions.Whole tree ↦ 0 | actions.Refused ↦ 0 ]

opening_both : (b : Bool) (x y : Move) → opening x ≡ 0 → opening y ≡ 0 → opening (if b then x else y) ≡ 0
opening_both true x y h k = h
opening_both false x y h k = k

close_opening : (stack : List Frame) (subtree : Subtree) (symbol : Symbol) (span : Span) → opening (close_by stack subtree symbol span) ≡ 0
close_opening [] subtree symbol span = refl
close_opening (frames.Parens start ∷ stack) subtree symbols.CloseParenthesis span = refl
close_opening (frames.Arguments called values ∷ stack) subtree symbols.CloseParenthesis span = refl
close_opening (frames.Arguments called values ∷ stack) subtree symbols.Comma span = refl
close_opening (frames.Elements start kind elements ∷ stack) subtree symbols.CloseBrace span = refl
close_opening (frames.Elements start kind elements ∷ stack) subtree symbols.Comma span = refl
close_opening (frames.Body it ty ∷ stack) subtree symbols.CloseParenthesis span = refl
close_opening (frames.If start ∷ stack) subtree symbols.Then span = refl
close_opening (frames.Then start condition ∷ stack) subtree symbols.Else span = refl
close_opening (frames.Else start condition one ∷ stack) subtree symbols.Endif span = refl
close_opening (frames.Let start name ty ∷ stack) subtree symbols.In span = refl
close_opening (frame ∷ stack) subtree symbol span = refl

operator_opening : (operator : Operator) (stack : List Frame) (subtree : Subtree) → opening (operator_on operator stack subtree) ≡ 0
operator_opening operator (frames.Row first rest waiting ∷ stack) subtree =
    opening_both (level_of waiting == level_of operator) (to (frames.Row first (rest ++ infixed waiting subtree.tree ∷ []) operator ∷ stack) states.Operand)
    (to (frames.Row subtree [] operator ∷ frames.Row first rest waiting ∷ stack) states.Operand) refl refl
operator_opening operator stack subtree = refl

behind_opening : (stack : List Frame) (subtree : Subtree) (symbol : Symbol) (span : Span) → opening (ended_by stack subtree symbol span) ≡ 0
behind_opening stack subtree (symbols.Operator operator) span =
    let s : Reduced = reduced (level_of operator + 1) stack subtree in
    operator_opening operator s.stack s.subtree
behind_opening stack subtree symbol span =
    let s : Reduced = reduced 0 stack subtree in
    close_opening s.stack s.subtree symbol span

operand_opening : (stack : List Frame) (symbol : Symbol) (span : Span) → is_opener symbol ≡ true → opening (operand stack symbol span) ≡ 0
operand_opening stack symbols.Let span o = opening_both (begins_expression stack) (to stack (states.LetName span.start)) (refused stack) refl refl
operand_opening stack symbols.If span o = refl
operand_opening stack symbols.Not span o = refl
operand_opening stack (symbols.Operator operators.Minus) span o = refl
operand_opening stack symbols.OpenParenthesis span o = refl
operand_opening stack symbols.OpenBrace span o = refl
operand_opening stack symbol span o = cc

after_opening : (stack : List Frame) (base : Base) (symbol : Symbol) (span : Span) → is_opener symbol ≡ true → opening (after stack base symbol span) ≡ 0
after_opening stack base symbols.Dot span o = refl
after_opening stack base symbols.Arrow span o = cc
after_opening stack base symbol span o = behind_opening stack (subtree_of base) symbol span

arguments_opening : (stack : List Frame) (called : CallHead) → opening (arguments stack called) ≡ 0
arguments_opening stack called = opening_both (takes_class called.name.text) (to stack (states.ClassName called)) (to (frames.Arguments called [] ∷ stack) states.Operand) refl refl

after_path_opening : (stack : List Frame) (path : Path) (symbol : Symbol) (span : Span) → is_opener symbol ≡ true → opening (after_path stack path symbol span) ≡ 0
after_path_opening stack path symbol span o = after_opening stack (base_of (exprs.Named path) path.span) symbol span o

path_opening : (names : List Name) (stack : List Frame) (path : Path) (symbol : Symbol) (span : Span) → is_opener symbol ≡ true → opening (path_by names stack path symbol span) ≡ 0
path_opening (name ∷ []) stack path symbols.OpenParenthesis span o = arguments_opening stack (call_of name)
path_opening names stack path symbols.DoubleColon span o = cc
path_opening names stack path symbol span o = after_path_opening stack path symbol span o

dotted_opening : (stack : List Frame) (base : Base) (start : ℕ) (name : Name) (symbol : Symbol) (span : Span) → is_opener symbol ≡ true → opening (dotted stack base start name symbol span) ≡ 0
dotted_opening stack base start name symbols.OpenParenthesis span o = arguments_opening stack (record { before = before.Dot base start; name = name })
dotted_opening stack base start name symbol span o = after_opening stack (with_postfix base (postfixes.Property name) name.span.end) symbol span o

class_path_opening : (stack : List Frame) (called : CallHead) (path : Path) (symbol : Symbol) (span : Span) → is_opener symbol ≡ true → opening (class_path stack called path symbol span) ≡ 0
class_path_opening stack called path symbols.DoubleColon span o = cc
class_path_opening stack called path symbols.CloseParenthesis span o = refl
class_path_opening stack called path symbol span o = refl

arrow_first_opening : (stack : List Frame) (base : Base) (start : ℕ) (name : Name) (symbol : Symbol) (span : Span) → is_opener symbol ≡ true → opening (arrow_first stack base start name symbol span) ≡ 0
arrow_first_opening stack base start name (symbols.Name variable) span o = refl
arrow_first_opening stack base start name symbol span o =
    opening_both (takes_class name.text) (refused stack) (operand (frames.Arguments (record { before = before.Arrow base start; name = name }) [] ∷ stack) symbol span) refl
    (operand_opening (frames.Arguments (record { before = before.Arrow base start; name = name }) [] ∷ stack) symbol span o)

arrow_second_opening : (stack : List Frame) (it : Iterated) (symbol : Symbol) (span : Span) → is_opener symbol ≡ true → opening (arrow_second stack it symbol span) ≡ 0
arrow_second_opening stack it symbols.Colon span o = refl
arrow_second_opening stack it symbols.Bar span o = refl
arrow_second_opening stack it symbol span o =
    opening_both (takes_class it.name.text) (class_path stack (arrow_call it) (path_of it.variable) symbol span) (on_path (frames.Arguments (arrow_call it) [] ∷ stack) (path_of it.variable) symbol span)
    (class_path_opening stack (arrow_call it) (path_of it.variable) symbol span o)
    (path_opening (it.variable ∷ []) (frames.Arguments (arrow_call it) [] ∷ stack) (path_of it.variable) symbol span o)

type_begin_opening : (stack : List Frame) (symbol : Symbol) (span : Span) → is_opener symbol ≡ true → opening (type_begin stack symbol span) ≡ 0
type_begin_opening stack (symbols.Plain ty) span o = refl
type_begin_opening stack (symbols.Kind kind) span o = cc
type_begin_opening stack (symbols.Name name) span o = refl
type_begin_opening stack symbol span o = refl

type_end_opening : (stack : List Frame) (ty : TypeTree) (symbol : Symbol) (span : Span) → opening (type_end stack ty symbol span) ≡ 0
type_end_opening (frames.OfKind start kind ∷ stack) ty symbols.CloseParenthesis span = refl
type_end_opening (frames.LetType start name ∷ stack) ty (symbols.Operator operators.Equal) span = refl
type_end_opening (frames.VariableType it ∷ stack) ty symbols.Bar span = refl
type_end_opening stack ty symbol span = refl

type_path_opening : (stack : List Frame) (path : Path) (symbol : Symbol) (span : Span) → is_opener symbol ≡ true → opening (type_path stack path symbol span) ≡ 0
type_path_opening stack path symbols.DoubleColon span o = cc
type_path_opening stack path symbol span o = type_end_opening stack (types.Named path) symbol span

name_opening : (stack : List Frame) (next : Name → State) (symbol : Symbol) → is_opener symbol ≡ true → opening (on_name stack next symbol) ≡ 0
name_opening stack next (symbols.Name name) o = cc
name_opening stack next symbol o = refl

colon_opening : (stack : List Frame) (start : ℕ) (name : Name) (symbol : Symbol) → opening (on_colon stack start name symbol) ≡ 0
colon_opening stack start name symbols.Colon = refl
colon_opening stack start name symbol = refl

brace_opening : (stack : List Frame) (start : ℕ) (kind : Kind) (symbol : Symbol) → opening (on_brace stack start kind symbol) ≡ 0
brace_opening stack start kind symbols.OpenBrace = refl
brace_opening stack start kind symbol = refl

type_parenthesis_opening : (stack : List Frame) (start : ℕ) (kind : Kind) (symbol : Symbol) → opening (on_type_parenthesis stack start kind symbol) ≡ 0
type_parenthesis_opening stack start kind symbols.OpenParenthesis = refl
type_parenthesis_opening stack start kind symbol = refl

arrow_parenthesis_opening : (stack : List Frame) (base : Base) (start : ℕ) (name : Name) (symbol : Symbol) → opening (on_arrow_parenthesis stack base start name symbol) ≡ 0
arrow_parenthesis_opening stack base start name symbols.OpenParenthesis = refl
arrow_parenthesis_opening stack base start name symbol = refl

pub move_opening : (stack : List Frame) (state : State) (symbol : Symbol) (span : Span) → is_opener symbol ≡ true → opening (move stack state symbol span) ≡ 0
unfolding move
move_opening stack states.Operand symbol span o = operand_opening stack symbol span o
move_opening stack (states.After base) symbol span o = after_opening stack base symbol span o
move_opening stack (states.Path path) symbol span o = path_opening path.names stack path symbol span o
move_opening stack (states.PathName path) symbol span o = name_opening stack (λ n. states.Path (extended path n)) symbol o
move_opening stack (states.LetName start) symbol span o = name_opening stack (λ n. states.LetColon start n) symbol o
move_opening stack (states.LetColon start name) symbol span o = colon_opening stack start name symbol
move_opening stack states.Type symbol span o = type_begin_opening stack symbol span o
move_opening stack (states.TypeParenthesis start kind) symbol span o = type_parenthesis_opening stack start kind symbol
move_opening stack (states.TypePath path) symbol span o = type_path_opening stack path symbol span o
move_opening stack (states.TypeName path) symbol span o = name_opening stack (λ n. states.TypePath (extended path n)) symbol o
move_opening stack (states.TypeEnd ty) symbol span o = type_end_opening stack ty symbol span
move_opening stack (states.Brace start kind) symbol span o = brace_opening stack start kind symbol
move_opening stack (states.DotName base start) symbol span o = name_opening stack (λ n. states.Dotted base start n) symbol o
move_opening stack (states.Dotted base start name) symbol span o = dotted_opening stack base start name symbol span o
move_opening stack (states.ArrowName base start) symbol span o = name_opening stack (λ n. states.ArrowParenthesis base start n) symbol o
move_opening stack (states.ArrowParenthesis base start name) symbol span o = arrow_parenthesis_opening stack base start name symbol
move_opening stack (states.ArrowFirst base start name) symbol span o = arrow_first_opening stack base start name symbol span o
move_opening stack (states.ArrowSecond it) symbol span o = arrow_second_opening stack it symbol span o
move_opening stack (states.ClassName called) symbol span o = name_opening stack (λ n. states.ClassPath called (path_of n)) symbol o
move_opening stack (states.ClassPath called path) symbol span o = class_path_opening stack called path symbol span o
move_opening stack (states.ClassNext called path) symbol span o = name_opening stack (λ n. states.ClassPath called (extended path n)) symbol o
