-- Behind an expression no symbol is refused: it ends or goes on.
use Rattle.std.proofs.Common.{◌≡◌, ℕ, ◌+◌, ◌++◌, ◌==◌, nat_lt, Bool, true, false, if◌then◌else◌, List, [], ◌∷◌, length, refl}
use Rattle.mof_metamodel.specs.declared.span.Span.{Span}
use Rattle.qv_syntax.specs.declared.name.Name.{Name}
use Rattle.qv_syntax.specs.declared.name.Path.{Path}
use Rattle.qv_syntax.specs.declared.operator.Operator.{Operator}
use Rattle.qv_syntax.specs.declared.type_tree.TypeTree.{TypeTree}
use Rattle.qv_syntax.specs.declared.type_tree.TypeTree.TheVariants as types
use Rattle.qv_syntax.specs.declared.expr.Expr.TheVariants as exprs
use Rattle.qv_syntax.specs.declared.expr.Postfix.TheVariants as postfixes
use Rattle.qv_syntax.specs.Operators.{level_of}
use Rattle.ocl_parser.specs.Grammar.{takes_class}
use Rattle.ocl_parser.specs.Moves.{Move, Reduced, move, to, refused, base_of, subtree_of, with_postfix, path_of, reduced, operator_on, close_by, ended_by, operand, after, arguments, call_of, infixed, after_path, path_by, on_path, dotted, arrow_call, arrow_first, arrow_second, class_path, type_end}
use Rattle.ql_lex.specs.declared.symbol.Symbol.{Symbol}
use Rattle.ql_lex.specs.declared.symbol.Symbol.TheVariants as symbols
use Rattle.ocl_parser.specs.declared.frame.Subtree.{Subtree}
use Rattle.ocl_parser.specs.declared.frame.Base.{Base}
use Rattle.ocl_parser.specs.declared.frame.Before.TheVariants as before
use Rattle.ocl_parser.specs.declared.frame.CallHead.{CallHead}
use Rattle.ocl_parser.specs.declared.frame.Iterated.{Iterated}
use Rattle.ocl_parser.specs.declared.frame.Frame.{Frame}
use Rattle.ocl_parser.specs.declared.frame.Frame.TheVariants as frames
use Rattle.ocl_parser.specs.declared.state.State.{State}
use Rattle.ocl_parser.specs.declared.state.State.TheVariants as states
use Rattle.ocl_parser.specs.declared.state.Action.TheVariants as actions

abbrev pub is_whole : Move → Bool
is_whole m = elim m.action [ actions.Read next ↦ false | actions.Whole tree ↦ true | actions.Refused ↦ false ]

abbrev pub is_refused : Move → Bool
is_refused m = elim m.action [ actions.Read next ↦ false | actions.Whole tree ↦ false | actions.Refused ↦ true ]

refused_both : (b : Bool) (x y : Move) → is_refused x ≡ false → is_refused y ≡ false → is_refused (if b then x else y) ≡ false
refused_both true x y h k = h
refused_both false x y h k = k

whole_neither : (b : Bool) (x y : Move) → is_whole x ≡ false → is_whole y ≡ false → is_whole (if b then x else y) ≡ false
whole_neither true x y h k = h
whole_neither false x y h k = k

close_whole : (stack : List Frame) (subtree : Subtree) (symbol : Symbol) (span other : Span) → is_whole (close_by stack subtree symbols.Other other) ≡ true → is_refused (close_by stack subtree symbol span) ≡ false
close_whole [] subtree symbol span other h = refl
close_whole (frames.LetType start name ∷ stack) subtree symbol span other h = cc
close_whole (frames.Let start name ty ∷ stack) subtree symbol span other h = cc
close_whole (frames.In start name ty value ∷ stack) subtree symbol span other h = cc
close_whole (frames.Not start ∷ stack) subtree symbol span other h = cc
close_whole (frames.Negated start ∷ stack) subtree symbol span other h = cc
close_whole (frames.Row first rest operator ∷ stack) subtree symbol span other h = cc
close_whole (frames.Parens start ∷ stack) subtree symbol span other h = cc
close_whole (frames.If start ∷ stack) subtree symbol span other h = cc
close_whole (frames.Then start condition ∷ stack) subtree symbol span other h = cc
close_whole (frames.Else start condition one ∷ stack) subtree symbol span other h = cc
close_whole (frames.Elements start kind elements ∷ stack) subtree symbol span other h = cc
close_whole (frames.Arguments called values ∷ stack) subtree symbol span other h = cc
close_whole (frames.VariableType it ∷ stack) subtree symbol span other h = cc
close_whole (frames.Body it ty ∷ stack) subtree symbol span other h = cc
close_whole (frames.OfKind start kind ∷ stack) subtree symbol span other h = cc

operator_read : (operator : Operator) (stack : List Frame) (subtree : Subtree) → is_refused (operator_on operator stack subtree) ≡ false
operator_read operator (frames.Row first rest waiting ∷ stack) subtree =
    refused_both (level_of waiting == level_of operator) (to (frames.Row first (rest ++ infixed waiting subtree.tree ∷ []) operator ∷ stack) states.Operand)
    (to (frames.Row subtree [] operator ∷ frames.Row first rest waiting ∷ stack) states.Operand) refl refl
operator_read operator stack subtree = refl

behind_whole : (stack : List Frame) (subtree : Subtree) (symbol : Symbol) (span other : Span) → is_whole (ended_by stack subtree symbols.Other other) ≡ true → is_refused (ended_by stack subtree symbol span) ≡ false
behind_whole stack subtree (symbols.Operator operator) span other h =
    let s : Reduced = reduced (level_of operator + 1) stack subtree in
    operator_read operator s.stack s.subtree
behind_whole stack subtree symbol span other h =
    let s : Reduced = reduced 0 stack subtree in
    close_whole s.stack s.subtree symbol span other h

after_whole : (stack : List Frame) (base : Base) (symbol : Symbol) (span other : Span) → is_whole (ended_by stack (subtree_of base) symbols.Other other) ≡ true → is_refused (after stack base symbol span) ≡ false
after_whole stack base symbols.Dot span other h = refl
after_whole stack base symbols.Arrow span other h = refl
after_whole stack base symbol span other h = behind_whole stack (subtree_of base) symbol span other h

arguments_read : (stack : List Frame) (called : CallHead) → is_refused (arguments stack called) ≡ false
arguments_read stack called = refused_both (takes_class called.name.text) (to stack (states.ClassName called)) (to (frames.Arguments called [] ∷ stack) states.Operand) refl refl

path_other : (names : List Name) (stack : List Frame) (path : Path) (other : Span) → is_whole (path_by names stack path symbols.Other other) ≡ true
    → is_whole (ended_by stack (subtree_of (base_of (exprs.Named path) path.span)) symbols.Other other) ≡ true
path_other [] stack path other h = h
path_other (x ∷ []) stack path other h = h
path_other (x ∷ y ∷ ns) stack path other h = h

path_whole : (names : List Name) (stack : List Frame) (path : Path) (symbol : Symbol) (span other : Span) → is_whole (ended_by stack (subtree_of (base_of (exprs.Named path) path.span)) symbols.Other other) ≡ true
    → is_refused (path_by names stack path symbol span) ≡ false
path_whole (name ∷ []) stack path symbols.OpenParenthesis span other h = arguments_read stack (call_of name)
path_whole names stack path symbols.DoubleColon span other h =
    refused_both (nat_lt (length names) 3) (to stack (states.PathName path)) (after_path stack path symbols.DoubleColon span) refl
    (after_whole stack (base_of (exprs.Named path) path.span) symbols.DoubleColon span other h)
path_whole names stack path symbol span other h = after_whole stack (base_of (exprs.Named path) path.span) symbol span other h

dotted_whole : (stack : List Frame) (base : Base) (start : ℕ) (name : Name) (symbol : Symbol) (span other : Span) → is_whole (ended_by stack (subtree_of (with_postfix base (postfixes.Property name) name.span.end)) symbols.Other other) ≡ true
    → is_refused (dotted stack base start name symbol span) ≡ false
dotted_whole stack base start name symbols.OpenParenthesis span other h = arguments_read stack (record { before = before.Dot base start; name = name })
dotted_whole stack base start name symbol span other h = after_whole stack (with_postfix base (postfixes.Property name) name.span.end) symbol span other h

-- in all other states nothing ends
pub type_not_whole : (stack : List Frame) (ty : TypeTree) (other : Span) → is_whole (type_end stack ty symbols.Other other) ≡ false
type_not_whole [] ty other = refl
type_not_whole (frames.OfKind start kind ∷ stack) ty other = refl
type_not_whole (frames.LetType start name ∷ stack) ty other = refl
type_not_whole (frames.VariableType it ∷ stack) ty other = refl
type_not_whole (frame ∷ stack) ty other = refl

pub arrow_second_not_whole : (stack : List Frame) (it : Iterated) (other : Span) → is_whole (arrow_second stack it symbols.Other other) ≡ false
unfolding reduced
arrow_second_not_whole stack it other =
    whole_neither (takes_class it.name.text) (class_path stack (arrow_call it) (path_of it.variable) symbols.Other other) (on_path (frames.Arguments (arrow_call it) [] ∷ stack) (path_of it.variable) symbols.Other other) refl refl

pub arrow_first_not_whole : (stack : List Frame) (base : Base) (start : ℕ) (name : Name) (other : Span) → is_whole (arrow_first stack base start name symbols.Other other) ≡ false
arrow_first_not_whole stack base start name other =
    whole_neither (takes_class name.text) (refused stack) (operand (frames.Arguments (record { before = before.Arrow base start; name = name }) [] ∷ stack) symbols.Other other) refl refl

never : (b c : Bool) → b ≡ false → b ≡ true → c ≡ false
never b c h k = cc

pub move_whole : (stack : List Frame) (state : State) (symbol : Symbol) (span other : Span) → is_whole (move stack state symbols.Other other) ≡ true → is_refused (move stack state symbol span) ≡ false
unfolding move
move_whole stack states.Operand symbol span other h = cc
move_whole stack (states.After base) symbol span other h = after_whole stack base symbol span other h
move_whole stack (states.Path path) symbol span other h = path_whole path.names stack path symbol span other (path_other path.names stack path other h)
move_whole stack (states.PathName path) symbol span other h = cc
move_whole stack (states.LetName start) symbol span other h = cc
move_whole stack (states.LetColon start name) symbol span other h = cc
move_whole stack states.Type symbol span other h = cc
move_whole stack (states.TypeParenthesis start kind) symbol span other h = cc
move_whole stack (states.TypePath path) symbol span other h = never _ _ (type_not_whole stack (types.Named path) other) h
move_whole stack (states.TypeName path) symbol span other h = cc
move_whole stack (states.TypeEnd ty) symbol span other h = never _ _ (type_not_whole stack ty other) h
move_whole stack (states.Brace start kind) symbol span other h = cc
move_whole stack (states.DotName base start) symbol span other h = cc
move_whole stack (states.Dotted base start name) symbol span other h = dotted_whole stack base start name symbol span other h
move_whole stack (states.ArrowName base start) symbol span other h = cc
move_whole stack (states.ArrowParenthesis base start name) symbol span other h = cc
move_whole stack (states.ArrowFirst base start name) symbol span other h = never _ _ (arrow_first_not_whole stack base start name other) h
move_whole stack (states.ArrowSecond it) symbol span other h = never _ _ (arrow_second_not_whole stack it other) h
move_whole stack (states.ClassName called) symbol span other h = cc
move_whole stack (states.ClassPath called path) symbol span other h = cc
move_whole stack (states.ClassNext called path) symbol span other h = cc
