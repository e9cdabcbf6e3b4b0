-- What ends an expression at the end of the text ends it before each symbol that closes.
use Rattle.std.proofs.Common.{◌≡◌, ℕ, true, false, List, [], ◌∷◌}
use Rattle.mof_metamodel.specs.declared.span.Span.{Span}
use Rattle.qv_syntax.specs.declared.name.Name.{Name}
use Rattle.qv_syntax.specs.declared.name.Path.{Path}
use Rattle.qv_syntax.specs.declared.type_tree.TypeTree.TheVariants as types
use Rattle.qv_syntax.specs.declared.expr.Expr.{Expr}
use Rattle.qv_syntax.specs.declared.expr.Expr.TheVariants as exprs
use Rattle.qv_syntax.specs.declared.expr.Postfix.TheVariants as postfixes
use Rattle.ocl_parser.specs.Moves.{Move, Reduced, move, base_of, subtree_of, with_postfix, reduced, close_by, ended_by, after, path_by, dotted, arrow_first, arrow_second, type_end}
use Rattle.ql_lex.specs.declared.symbol.Symbol.{Symbol}
use Rattle.ql_lex.specs.declared.symbol.Symbol.TheVariants as symbols
use Rattle.ocl_parser.specs.declared.frame.Subtree.{Subtree}
use Rattle.ocl_parser.specs.declared.frame.Base.{Base}
use Rattle.ocl_parser.specs.declared.frame.Frame.{Frame}
use Rattle.ocl_parser.specs.declared.frame.Frame.TheVariants as frames
use Rattle.ocl_parser.specs.declared.state.State.{State}
use Rattle.ocl_parser.specs.declared.state.State.TheVariants as states
use Rattle.ocl_parser.specs.declared.state.Action.TheVariants as actions
use Rattle.ocl_parser.proofs.CompleteForms.{closes}
use Rattle.ocl_parser.proofs.CompletionWhole.{is_whole, type_not_whole, arrow_first_not_whole, arrow_second_not_whole}

close_ended : (stack : List Frame) (subtree : Subtree) (symbol : Symbol) (span other : Span) (d : Expr) → (close_by stack subtree symbols.Other other).action ≡ actions.Whole d
    → (close_by stack subtree symbol span).action ≡ actions.Whole d
close_ended [] subtree symbol span other d h = h
close_ended (frames.LetType start name ∷ stack) subtree symbol span other d h = cc
close_ended (frames.Let start name ty ∷ stack) subtree symbol span other d h = cc
close_ended (frames.In start name ty value ∷ stack) subtree symbol span other d h = cc
close_ended (frames.Not start ∷ stack) subtree symbol span other d h = cc
close_ended (frames.Negated start ∷ stack) subtree symbol span other d h = cc
close_ended (frames.Row first rest operator ∷ stack) subtree symbol span other d h = cc
close_ended (frames.Parens start ∷ stack) subtree symbol span other d h = cc
close_ended (frames.If start ∷ stack) subtree symbol span other d h = cc
close_ended (frames.Then start condition ∷ stack) subtree symbol span other d h = cc
close_ended (frames.Else start condition one ∷ stack) subtree symbol span other d h = cc
close_ended (frames.Elements start kind elements ∷ stack) subtree symbol span other d h = cc
close_ended (frames.Arguments called values ∷ stack) subtree symbol span other d h = cc
close_ended (frames.VariableType it ∷ stack) subtree symbol span other d h = cc
close_ended (frames.Body it ty ∷ stack) subtree symbol span other d h = cc
close_ended (frames.OfKind start kind ∷ stack) subtree symbol span other d h = cc

behind_ended : (stack : List Frame) (subtree : Subtree) (symbol : Symbol) (span other : Span) (d : Expr) → closes symbol ≡ true → (ended_by stack subtree symbols.Other other).action ≡ actions.Whole d
    → (ended_by stack subtree symbol span).action ≡ actions.Whole d
behind_ended stack subtree (symbols.Operator operator) span other d c h = cc
behind_ended stack subtree symbol span other d c h =
    let s : Reduced = reduced 0 stack subtree in
    close_ended s.stack s.subtree symbol span other d h

after_ended : (stack : List Frame) (base : Base) (symbol : Symbol) (span other : Span) (d : Expr) → closes symbol ≡ true → (ended_by stack (subtree_of base) symbols.Other other).action ≡ actions.Whole d
    → (after stack base symbol span).action ≡ actions.Whole d
after_ended stack base symbols.Dot span other d c h = cc
after_ended stack base symbols.Arrow span other d c h = cc
after_ended stack base symbol span other d c h = behind_ended stack (subtree_of base) symbol span other d c h

path_before : (names : List Name) (stack : List Frame) (path : Path) (other : Span) (d : Expr) → (path_by names stack path symbols.Other other).action ≡ actions.Whole d
    → (ended_by stack (subtree_of (base_of (exprs.Named path) path.span)) symbols.Other other).action ≡ actions.Whole d
path_before [] stack path other d h = h
path_before (x ∷ []) stack path other d h = h
path_before (x ∷ y ∷ ns) stack path other d h = h

path_ended : (names : List Name) (stack : List Frame) (path : Path) (symbol : Symbol) (span other : Span) (d : Expr) → closes symbol ≡ true
    → (ended_by stack (subtree_of (base_of (exprs.Named path) path.span)) symbols.Other other).action ≡ actions.Whole d → (path_by names stack path symbol span).action ≡ actions.Whole d
path_ended (name ∷ []) stack path symbols.OpenParenthesis span other d c h = cc
path_ended names stack path symbols.DoubleColon span other d c h = cc
path_ended names stack path symbol span other d c h = after_ended stack (base_of (exprs.Named path) path.span) symbol span other d c h

dotted_ended : (stack : List Frame) (base : Base) (start : ℕ) (name : Name) (symbol : Symbol) (span other : Span) (d : Expr) → closes symbol ≡ true
    → (ended_by stack (subtree_of (with_postfix base (postfixes.Property name) name.span.end)) symbols.Other other).action ≡ actions.Whole d → (dotted stack base start name symbol span).action ≡ actions.Whole d
dotted_ended stack base start name symbols.OpenParenthesis span other d c h = cc
dotted_ended stack base start name symbol span other d c h = after_ended stack (with_postfix base (postfixes.Property name) name.span.end) symbol span other d c h

no_end : {X : Type 0} (m : Move) (d : Expr) → is_whole m ≡ false → m.action ≡ actions.Whole d → X
no_end m d h is = let no : true ≡ false = rw is at h in cc

pub move_ended : (stack : List Frame) (state : State) (symbol : Symbol) (span other : Span) (d : Expr) → closes symbol ≡ true → (move stack state symbols.Other other).action ≡ actions.Whole d
    → (move stack state symbol span).action ≡ actions.Whole d
unfolding move
move_ended stack states.Operand symbol span other d c h = cc
move_ended stack (states.After base) symbol span other d c h = after_ended stack base symbol span other d c h
move_ended stack (states.Path path) symbol span other d c h = path_ended path.names stack path symbol span other d c (path_before path.names stack path other d h)
move_ended stack (states.PathName path) symbol span other d c h = cc
move_ended stack (states.LetName start) symbol span other d c h = cc
move_ended stack (states.LetColon start name) symbol span other d c h = cc
move_ended stack states.Type symbol span other d c h = cc
move_ended stack (states.TypeParenthesis start kind) symbol span other d c h = cc
move_ended stack (states.TypePath path) symbol span other d c h = no_end (type_end stack (types.Named path) symbols.Other other) d (type_not_whole stack (types.Named path) other) h
move_ended stack (states.TypeName path) symbol span other d c h = cc
move_ended stack (states.TypeEnd ty) symbol span other d c h = no_end (type_end stack ty symbols.Other other) d (type_not_whole stack ty other) h
move_ended stack (states.Brace start kind) symbol span other d c h = cc
move_ended stack (states.DotName base start) symbol span other d c h = cc
move_ended stack (states.Dotted base start name) symbol span other d c h = dotted_ended stack base start name symbol span other d c h
move_ended stack (states.ArrowName base start) symbol span other d c h = cc
move_ended stack (states.ArrowParenthesis base start name) symbol span other d c h = cc
move_ended stack (states.ArrowFirst base start name) symbol span other d c h = no_end (arrow_first stack base start name symbols.Other other) d (arrow_first_not_whole stack base start name other) h
move_ended stack (states.ArrowSecond it) symbol span other d c h = no_end (arrow_second stack it symbols.Other other) d (arrow_second_not_whole stack it other) h
move_ended stack (states.ClassName called) symbol span other d c h = cc
move_ended stack (states.ClassPath called path) symbol span other d c h = cc
move_ended stack (states.ClassNext called path) symbol span other d c h = cc
