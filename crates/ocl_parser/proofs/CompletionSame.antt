-- Where an expression ends it is the same, whatever symbol follows.
use Rattle.std.proofs.Common.{◌≡◌, ℕ, ◌+◌, ◌++◌, ◌==◌, nat_lt, Bool, true, false, if◌then◌else◌, List, [], ◌∷◌, length}
use Rattle.mof_metamodel.specs.declared.span.Span.{Span}
use Rattle.qv_syntax.specs.declared.name.Name.{Name}
use Rattle.qv_syntax.specs.declared.name.Path.{Path}
use Rattle.qv_syntax.specs.declared.operator.Operator.{Operator}
use Rattle.qv_syntax.specs.declared.type_tree.TypeTree.TheVariants as types
use Rattle.qv_syntax.specs.declared.expr.Expr.{Expr}
use Rattle.qv_syntax.specs.declared.expr.Expr.TheVariants as exprs
use Rattle.qv_syntax.specs.declared.expr.Postfix.TheVariants as postfixes
use Rattle.qv_syntax.specs.Operators.{level_of}
use Rattle.ocl_parser.specs.Grammar.{takes_class}
use Rattle.ocl_parser.specs.Moves.{Move, Reduced, move, to, base_of, subtree_of, with_postfix, reduced, operator_on, close_by, ended_by, after, arguments, call_of, infixed, after_path, path_by, dotted, arrow_first, arrow_second, type_end}
use Rattle.ql_lex.specs.declared.symbol.Symbol.{Symbol}
use Rattle.ql_lex.specs.declared.symbol.Symbol.TheVariants as symbols
use Rattle.ocl_parser.specs.declared.frame.Subtree.{Subtree}
use Rattle.ocl_parser.specs.declared.frame.Base.{Base}
use Rattle.ocl_parser.specs.declared.frame.Before.TheVariants as before
use Rattle.ocl_parser.specs.declared.frame.CallHead.{CallHead}
use Rattle.ocl_parser.specs.declared.frame.Frame.{Frame}
use Rattle.ocl_parser.specs.declared.frame.Frame.TheVariants as frames
use Rattle.ocl_parser.specs.declared.state.State.{State}
use Rattle.ocl_parser.specs.declared.state.State.TheVariants as states
use Rattle.ocl_parser.specs.declared.state.Action.TheVariants as actions
use Rattle.ocl_parser.proofs.CompletionWhole.{is_whole, type_not_whole, arrow_first_not_whole, arrow_second_not_whole}

same_both : (b : Bool) (x y : Move) (d e : Expr) → (x.action ≡ actions.Whole e → d ≡ e) → (y.action ≡ actions.Whole e → d ≡ e) → (if b then x else y).action ≡ actions.Whole e → d ≡ e
same_both true x y d e f g h = f h
same_both false x y d e f g h = g h

-- a symbol that is read ends nothing
read_same : (state : State) (d e : Expr) → actions.Read state ≡ actions.Whole e → d ≡ e
read_same state d e h = cc

close_same : (stack : List Frame) (subtree : Subtree) (symbol : Symbol) (span other : Span) (d e : Expr) → (close_by stack subtree symbols.Other other).action ≡ actions.Whole d → (close_by stack subtree symbol span).action ≡ actions.Whole e → d ≡ e
close_same [] subtree symbol span other d e g h = cc
close_same (frames.LetType start name ∷ stack) subtree symbol span other d e g h = cc
close_same (frames.Let start name ty ∷ stack) subtree symbol span other d e g h = cc
close_same (frames.In start name ty value ∷ stack) subtree symbol span other d e g h = cc
close_same (frames.Not start ∷ stack) subtree symbol span other d e g h = cc
close_same (frames.Negated start ∷ stack) subtree symbol span other d e g h = cc
close_same (frames.Row first rest operator ∷ stack) subtree symbol span other d e g h = cc
close_same (frames.Parens start ∷ stack) subtree symbol span other d e g h = cc
close_same (frames.If start ∷ stack) subtree symbol span other d e g h = cc
close_same (frames.Then start condition ∷ stack) subtree symbol span other d e g h = cc
close_same (frames.Else start condition one ∷ stack) subtree symbol span other d e g h = cc
close_same (frames.Elements start kind elements ∷ stack) subtree symbol span other d e g h = cc
close_same (frames.Arguments called values ∷ stack) subtree symbol span other d e g h = cc
close_same (frames.VariableType it ∷ stack) subtree symbol span other d e g h = cc
close_same (frames.Body it ty ∷ stack) subtree symbol span other d e g h = cc
close_same (frames.OfKind start kind ∷ stack) subtree symbol span other d e g h = cc

operator_same : (operator : Operator) (stack : List Frame) (subtree : Subtree) (d e : Expr) → (operator_on operator stack subtree).action ≡ actions.Whole e → d ≡ e
operator_same operator (frames.Row first rest waiting ∷ stack) subtree d e h =
    same_both (level_of waiting == level_of operator) (to (frames.Row first (rest ++ infixed waiting subtree.tree ∷ []) operator ∷ stack) states.Operand)
    (to (frames.Row subtree [] operator ∷ frames.Row first rest waiting ∷ stack) states.Operand) d e (read_same states.Operand d e) (read_same states.Operand d e) h
operator_same operator stack subtree d e h = read_same states.Operand d e h

behind_same : (stack : List Frame) (subtree : Subtree) (symbol : Symbol) (span other : Span) (d e : Expr) → (ended_by stack subtree symbols.Other other).action ≡ actions.Whole d → (ended_by stack subtree symbol span).action ≡ actions.Whole e → d ≡ e
behind_same stack subtree (symbols.Operator operator) span other d e g h =
    let s : Reduced = reduced (level_of operator + 1) stack subtree in
    operator_same operator s.stack s.subtree d e h
behind_same stack subtree symbol span other d e g h =
    let s : Reduced = reduced 0 stack subtree in
    close_same s.stack s.subtree symbol span other d e g h

after_same : (stack : List Frame) (base : Base) (symbol : Symbol) (span other : Span) (d e : Expr) → (ended_by stack (subtree_of base) symbols.Other other).action ≡ actions.Whole d → (after stack base symbol span).action ≡ actions.Whole e → d ≡ e
after_same stack base symbols.Dot span other d e g h = cc
after_same stack base symbols.Arrow span other d e g h = cc
after_same stack base symbol span other d e g h = behind_same stack (subtree_of base) symbol span other d e g h

arguments_same : (stack : List Frame) (called : CallHead) (d e : Expr) → (arguments stack called).action ≡ actions.Whole e → d ≡ e
arguments_same stack called d e h =
    same_both (takes_class called.name.text) (to stack (states.ClassName called)) (to (frames.Arguments called [] ∷ stack) states.Operand) d e (read_same (states.ClassName called) d e) (read_same states.Operand d e) h

path_ended : (names : List Name) (stack : List Frame) (path : Path) (other : Span) (d : Expr) → (path_by names stack path symbols.Other other).action ≡ actions.Whole d
    → (ended_by stack (subtree_of (base_of (exprs.Named path) path.span)) symbols.Other other).action ≡ actions.Whole d
path_ended [] stack path other d h = h
path_ended (x ∷ []) stack path other d h = h
path_ended (x ∷ y ∷ ns) stack path other d h = h

path_same : (names : List Name) (stack : List Frame) (path : Path) (symbol : Symbol) (span other : Span) (d e : Expr) → (ended_by stack (subtree_of (base_of (exprs.Named path) path.span)) symbols.Other other).action ≡ actions.Whole d
    → (path_by names stack path symbol span).action ≡ actions.Whole e → d ≡ e
path_same (name ∷ []) stack path symbols.OpenParenthesis span other d e g h = arguments_same stack (call_of name) d e h
path_same names stack path symbols.DoubleColon span other d e g h =
    same_both (nat_lt (length names) 3) (to stack (states.PathName path)) (after_path stack path symbols.DoubleColon span) d e (read_same (states.PathName path) d e)
    (after_same stack (base_of (exprs.Named path) path.span) symbols.DoubleColon span other d e g) h
path_same names stack path symbol span other d e g h = after_same stack (base_of (exprs.Named path) path.span) symbol span other d e g h

dotted_same : (stack : List Frame) (base : Base) (start : ℕ) (name : Name) (symbol : Symbol) (span other : Span) (d e : Expr)
    → (ended_by stack (subtree_of (with_postfix base (postfixes.Property name) name.span.end)) symbols.Other other).action ≡ actions.Whole d → (dotted stack base start name symbol span).action ≡ actions.Whole e → d ≡ e
dotted_same stack base start name symbols.OpenParenthesis span other d e g h = arguments_same stack (record { before = before.Dot base start; name = name }) d e h
dotted_same stack base start name symbol span other d e g h = after_same stack (with_postfix base (postfixes.Property name) name.span.end) symbol span other d e g h

no_end : (m : Move) (d e : Expr) → is_whole m ≡ false → m.action ≡ actions.Whole d → d ≡ e
no_end m d e h is = let no : true ≡ false = rw is at h in cc

pub move_same : (stack : List Frame) (state : State) (symbol : Symbol) (span other : Span) (d e : Expr) → (move stack state symbols.Other other).action ≡ actions.Whole d → (move stack state symbol span).action ≡ actions.Whole e → d ≡ e
unfolding move
move_same stack states.Operand symbol span other d e g h = cc
move_same stack (states.After base) symbol span other d e g h = after_same stack base symbol span other d e g h
move_same stack (states.Path path) symbol span other d e g h = path_same path.names stack path symbol span other d e (path_ended path.names stack path other d g) h
move_same stack (states.PathName path) symbol span other d e g h = cc
move_same stack (states.LetName start) symbol span other d e g h = cc
move_same stack (states.LetColon start name) symbol span other d e g h = cc
move_same stack states.Type symbol span other d e g h = cc
move_same stack (states.TypeParenthesis start kind) symbol span other d e g h = cc
move_same stack (states.TypePath path) symbol span other d e g h = no_end (type_end stack (types.Named path) symbols.Other other) d e (type_not_whole stack (types.Named path) other) g
move_same stack (states.TypeName path) symbol span other d e g h = cc
move_same stack (states.TypeEnd ty) symbol span other d e g h = no_end (type_end stack ty symbols.Other other) d e (type_not_whole stack ty other) g
move_same stack (states.Brace start kind) symbol span other d e g h = cc
move_same stack (states.DotName base start) symbol span other d e g h = cc
move_same stack (states.Dotted base start name) symbol span other d e g h = dotted_same stack base start name symbol span other d e g h
move_same stack (states.ArrowName base start) symbol span other d e g h = cc
move_same stack (states.ArrowParenthesis base start name) symbol span other d e g h = cc
move_same stack (states.ArrowFirst base start name) symbol span other d e g h = no_end (arrow_first stack base start name symbols.Other other) d e (arrow_first_not_whole stack base start name other) g
move_same stack (states.ArrowSecond it) symbol span other d e g h = no_end (arrow_second stack it symbols.Other other) d e (arrow_second_not_whole stack it other) g
move_same stack (states.ClassName called) symbol span other d e g h = cc
move_same stack (states.ClassPath called path) symbol span other d e g h = cc
move_same stack (states.ClassNext called path) symbol span other d e g h = cc
