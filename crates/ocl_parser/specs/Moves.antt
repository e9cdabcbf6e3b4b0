-- How expressions are read, terminal by terminal: the constructs that are open stand on the operator stack, the innermost first, and
-- a state says what may come next. Operators wait in rows on the stack and are reduced once one follows that binds no tighter.
use Rattle.std.specs.Prelude.{ℕ, ◌+◌, Bool, true, false, ◌==◌, nat_lt, nat_le, if◌then◌else◌, List, [], ◌∷◌, ◌++◌, length, Option, Some, None}
use Rattle.mof_metamodel.specs.declared.span.Span.{Span}
use Rattle.qv_syntax.specs.declared.name.Name.{Name}
use Rattle.qv_syntax.specs.declared.name.Path.{Path}
use Rattle.qv_syntax.specs.declared.operator.Operator.{Operator}
use Rattle.qv_syntax.specs.declared.operator.Operator.TheVariants as operators
use Rattle.qv_syntax.specs.declared.type_tree.Kind.{Kind}
use Rattle.qv_syntax.specs.declared.type_tree.TypeTree.{TypeTree}
use Rattle.qv_syntax.specs.declared.type_tree.TypeTree.TheVariants as types
use Rattle.qv_syntax.specs.declared.expr.Expr.{Expr}
use Rattle.qv_syntax.specs.declared.expr.Expr.TheVariants as exprs
use Rattle.qv_syntax.specs.declared.expr.Infix.{Infix}
use Rattle.qv_syntax.specs.declared.expr.Postfix.{Postfix}
use Rattle.qv_syntax.specs.declared.expr.Postfix.TheVariants as postfixes
use Rattle.qv_syntax.specs.declared.expr.Args.{Args}
use Rattle.qv_syntax.specs.declared.expr.Args.TheVariants as args
use Rattle.qv_syntax.specs.Operators.{level_of}
use Rattle.ocl_parser.specs.Grammar.{takes_class}
use Rattle.ql_lex.specs.declared.symbol.Symbol.{Symbol}
use Rattle.ql_lex.specs.declared.symbol.Symbol.TheVariants as symbols
use Rattle.ql_lex.specs.declared.symbol.PlainType.{PlainType}
use Rattle.ql_lex.specs.declared.symbol.PlainType.TheVariants as plain
use Rattle.ocl_parser.specs.declared.frame.Subtree.{Subtree}
use Rattle.ocl_parser.specs.declared.frame.Base.{Base}
use Rattle.ocl_parser.specs.declared.frame.Before.{Before}
use Rattle.ocl_parser.specs.declared.frame.Before.TheVariants as before
use Rattle.ocl_parser.specs.declared.frame.CallHead.{CallHead}
use Rattle.ocl_parser.specs.declared.frame.Iterated.{Iterated}
use Rattle.ocl_parser.specs.declared.frame.Frame.{Frame}
use Rattle.ocl_parser.specs.declared.frame.Frame.TheVariants as frames
use Rattle.ocl_parser.specs.declared.state.State.{State}
use Rattle.ocl_parser.specs.declared.state.State.TheVariants as states
use Rattle.ocl_parser.specs.declared.state.Action.{Action}
use Rattle.ocl_parser.specs.declared.state.Action.TheVariants as actions

-- ---- what was read so far

-- the open constructs, the innermost first, and what comes of a symbol
pub record Move : Type 0 where
  pub stack : List Frame
  pub action : Action

abbrev pub to : List Frame → State → Move
to stack state = record { stack = stack; action = actions.Read state }

abbrev pub refused : List Frame → Move
refused stack = record { stack = stack; action = actions.Refused }

abbrev pub from_to : ℕ → ℕ → Span
from_to start end = record { start = start; end = end }

-- a part that binds tightest, with no calls on it yet
abbrev pub base_of : Expr → Span → Base
base_of tree span = record { of = tree; steps = []; span = span }

abbrev pub behind_base : List Frame → Expr → Span → Move
behind_base stack tree span = to stack (states.After (base_of tree span))

-- the part with one more call, which ends at this place
abbrev pub with_postfix : Base → Postfix → ℕ → Base
with_postfix base step end = record { of = base.of; steps = base.steps ++ step ∷ []; span = from_to base.span.start end }

-- the part with its calls
abbrev pub subtree_by : Base → List Postfix → Subtree
subtree_by base [] = record { tree = base.of; span = base.span }
subtree_by base (step ∷ steps) = record { tree = exprs.Calls base.of (step ∷ steps) base.span; span = base.span }

abbrev pub subtree_of : Base → Subtree
subtree_of base = subtree_by base base.steps

abbrev pub path_of : Name → Path
path_of name = record { names = name ∷ []; span = name.span }

-- the path with one more name
abbrev pub extended : Path → Name → Path
extended path name = record { names = path.names ++ name ∷ []; span = from_to path.span.start name.span.end }

-- a call with its arguments, which ends at this place
abbrev pub called_by : Before → Name → Args → ℕ → Base
called_by before.Nothing name args end = base_of (exprs.Call name args (from_to name.span.start end)) (from_to name.span.start end)
called_by (before.Dot base start) name args end = with_postfix base (postfixes.Dot name args (from_to start end)) end
called_by (before.Arrow base start) name args end = with_postfix base (postfixes.Arrow name args (from_to start end)) end

abbrev pub with_args : CallHead → Args → ℕ → Base
with_args called args end = called_by called.before called.name args end

-- an iterator with its body, which ends at this place
abbrev pub with_body : Iterated → Option TypeTree → Expr → ℕ → Base
with_body it ty body end = with_postfix it.base (postfixes.Iterator it.name it.variable ty body (from_to it.start end)) end

abbrev pub infixed : Operator → Expr → Infix
infixed operator right = record { operator = operator; right = right }

-- ---- what ends before a symbol

-- a row with its last part
abbrev pub chained : Subtree → List Infix → Operator → Subtree → Subtree
chained first rest operator right = record {
  tree = exprs.Chain first.tree (rest ++ infixed operator right.tree ∷ []) (from_to first.span.start right.span.end);
  span = from_to first.span.start right.span.end;
}

pub record Reduced : Type 0 where
  pub stack : List Frame
  pub subtree : Subtree

-- The part with all that ends before an operator of the level below `level`: `not` and `-`, rows of this level or a
-- higher one, and before level 0, thus before all else, each `let` whose body ends.
unfoldable pub reduced : ℕ → List Frame → Subtree → Reduced
reduced level [] subtree = record { stack = []; subtree = subtree }
reduced level (frames.Not start ∷ stack) subtree =
    reduced level stack (record { tree = exprs.Not subtree.tree (from_to start subtree.span.end); span = from_to start subtree.span.end })
reduced level (frames.Negated start ∷ stack) subtree =
    reduced level stack (record { tree = exprs.Negated subtree.tree (from_to start subtree.span.end); span = from_to start subtree.span.end })
reduced level (frames.Row first rest operator ∷ stack) subtree =
    if nat_le level (level_of operator) then reduced level stack (chained first rest operator subtree)
    else record { stack = frames.Row first rest operator ∷ stack; subtree = subtree }
reduced level (frames.In start name ty value ∷ stack) subtree =
    if level == 0 then reduced level stack (record { tree = exprs.Let name ty value subtree.tree (from_to start subtree.span.end); span = from_to start subtree.span.end })
    else record { stack = frames.In start name ty value ∷ stack; subtree = subtree }
reduced level (frame ∷ stack) subtree = record { stack = frame ∷ stack; subtree = subtree }

-- an operator goes on with the row of its level, if that is open, or begins one
abbrev pub operator_on : Operator → List Frame → Subtree → Move
operator_on operator (frames.Row first rest waiting ∷ stack) subtree =
    if level_of waiting == level_of operator then to (frames.Row first (rest ++ infixed waiting subtree.tree ∷ []) operator ∷ stack) states.Operand
    else to (frames.Row subtree [] operator ∷ frames.Row first rest waiting ∷ stack) states.Operand
operator_on operator stack subtree = to (frames.Row subtree [] operator ∷ stack) states.Operand

abbrev pub at_operator : Operator → Reduced → Move
at_operator operator s = operator_on operator s.stack s.subtree

-- ---- symbols behind an expression, which fit the innermost open construct or end the whole

abbrev pub close_by : List Frame → Subtree → Symbol → Span → Move
close_by [] subtree symbol span = record { stack = []; action = actions.Whole subtree.tree }
close_by (frames.Parens start ∷ stack) subtree symbols.CloseParenthesis span =
    behind_base stack (exprs.Parens subtree.tree (from_to start span.end)) (from_to start span.end)
close_by (frames.Arguments called values ∷ stack) subtree symbols.CloseParenthesis span =
    to stack (states.After (with_args called (args.Values (values ++ subtree.tree ∷ [])) span.end))
close_by (frames.Arguments called values ∷ stack) subtree symbols.Comma span =
    to (frames.Arguments called (values ++ subtree.tree ∷ []) ∷ stack) states.Operand
close_by (frames.Elements start kind elements ∷ stack) subtree symbols.CloseBrace span =
    behind_base stack (exprs.Coll kind (elements ++ subtree.tree ∷ []) (from_to start span.end)) (from_to start span.end)
close_by (frames.Elements start kind elements ∷ stack) subtree symbols.Comma span =
    to (frames.Elements start kind (elements ++ subtree.tree ∷ []) ∷ stack) states.Operand
close_by (frames.Body it ty ∷ stack) subtree symbols.CloseParenthesis span = to stack (states.After (with_body it ty subtree.tree span.end))
close_by (frames.If start ∷ stack) subtree symbols.Then span = to (frames.Then start subtree.tree ∷ stack) states.Operand
close_by (frames.Then start condition ∷ stack) subtree symbols.Else span = to (frames.Else start condition subtree.tree ∷ stack) states.Operand
close_by (frames.Else start condition one ∷ stack) subtree symbols.Endif span =
    behind_base stack (exprs.If condition one subtree.tree (from_to start span.end)) (from_to start span.end)
close_by (frames.Let start name ty ∷ stack) subtree symbols.In span = to (frames.In start name ty subtree.tree ∷ stack) states.Operand
close_by (frame ∷ stack) subtree symbol span = refused (frame ∷ stack)

abbrev pub closed : Reduced → Symbol → Span → Move
closed s symbol span = close_by s.stack s.subtree symbol span

-- behind an operand, which ends
abbrev pub ended_by : List Frame → Subtree → Symbol → Span → Move
ended_by stack subtree (symbols.Operator operator) span = at_operator operator (reduced (level_of operator + 1) stack subtree)
ended_by stack subtree symbol span = closed (reduced 0 stack subtree) symbol span

-- ---- the states

-- a `let` may begin here: no operator, `not` or `-` stands before
abbrev pub begins_expression : List Frame → Bool
begins_expression (frames.Row first rest operator ∷ stack) = false
begins_expression (frames.Not start ∷ stack) = false
begins_expression (frames.Negated start ∷ stack) = false
begins_expression stack = true

abbrev pub let_on : Bool → List Frame → ℕ → Move
let_on begins stack start = if begins then to stack (states.LetName start) else refused stack

-- `)` with no argument, `}` with no element
abbrev pub none_in_parentheses : List Frame → ℕ → Move
none_in_parentheses (frames.Arguments called [] ∷ stack) end = to stack (states.After (with_args called (args.Values []) end))
none_in_parentheses stack end = refused stack

abbrev pub none_in_braces : List Frame → ℕ → Move
none_in_braces (frames.Elements start kind [] ∷ stack) end = behind_base stack (exprs.Coll kind [] (from_to start end)) (from_to start end)
none_in_braces stack end = refused stack

abbrev pub operand : List Frame → Symbol → Span → Move
operand stack symbols.Let span = let_on (begins_expression stack) stack span.start
operand stack symbols.If span = to (frames.If span.start ∷ stack) states.Operand
operand stack symbols.Not span = to (frames.Not span.start ∷ stack) states.Operand
operand stack (symbols.Operator operators.Minus) span = to (frames.Negated span.start ∷ stack) states.Operand
operand stack symbols.OpenParenthesis span = to (frames.Parens span.start ∷ stack) states.Operand
operand stack symbols.Null span = behind_base stack (exprs.Null span) span
operand stack symbols.Invalid span = behind_base stack (exprs.Invalid span) span
operand stack (symbols.Bool value) span = behind_base stack (exprs.Bool value span) span
operand stack (symbols.Number value) span = behind_base stack (exprs.Number value span) span
operand stack (symbols.Str value) span = behind_base stack (exprs.Str value span) span
operand stack (symbols.Name name) span = to stack (states.Path (path_of name))
operand stack (symbols.Kind kind) span = to stack (states.Brace span.start kind)
operand stack symbols.CloseParenthesis span = none_in_parentheses stack span.end
operand stack symbols.CloseBrace span = none_in_braces stack span.end
operand stack symbol span = refused stack

abbrev pub after : List Frame → Base → Symbol → Span → Move
after stack base symbols.Dot span = to stack (states.DotName base span.start)
after stack base symbols.Arrow span = to stack (states.ArrowName base span.start)
after stack base symbol span = ended_by stack (subtree_of base) symbol span

-- the `(` of a call
abbrev pub arguments : List Frame → CallHead → Move
arguments stack called =
    if takes_class called.name.text then to stack (states.ClassName called) else to (frames.Arguments called [] ∷ stack) states.Operand

abbrev pub call_of : Name → CallHead
call_of name = record { before = before.Nothing; name = name }

abbrev pub after_path : List Frame → Path → Symbol → Span → Move
after_path stack path symbol span = after stack (base_of (exprs.Named path) path.span) symbol span

-- behind the names of a path: `(` makes one name a call
abbrev pub path_by : List Name → List Frame → Path → Symbol → Span → Move
path_by (name ∷ []) stack path symbols.OpenParenthesis span = arguments stack (call_of name)
path_by names stack path symbols.DoubleColon span =
    if nat_lt (length names) 3 then to stack (states.PathName path) else after_path stack path symbols.DoubleColon span
path_by names stack path symbol span = after_path stack path symbol span

abbrev pub on_path : List Frame → Path → Symbol → Span → Move
on_path stack path symbol span = path_by path.names stack path symbol span

abbrev pub dotted : List Frame → Base → ℕ → Name → Symbol → Span → Move
dotted stack base start name symbols.OpenParenthesis span = arguments stack (record { before = before.Dot base start; name = name })
dotted stack base start name symbol span = after stack (with_postfix base (postfixes.Property name) name.span.end) symbol span

abbrev pub arrow_call : Iterated → CallHead
arrow_call it = record { before = before.Arrow it.base it.start; name = it.name }

abbrev pub class_path : List Frame → CallHead → Path → Symbol → Span → Move
class_path stack called path symbols.DoubleColon span = if nat_lt (length path.names) 2 then to stack (states.ClassNext called path) else refused stack
class_path stack called path symbols.CloseParenthesis span = to stack (states.After (with_args called (args.Class path) span.end))
class_path stack called path symbol span = refused stack

abbrev pub iterated_of : Base → ℕ → Name → Name → Iterated
iterated_of base start name variable = record { base = base; start = start; name = name; variable = variable }

-- behind `->name(`: a name may be a variable
abbrev pub arrow_first : List Frame → Base → ℕ → Name → Symbol → Span → Move
arrow_first stack base start name (symbols.Name variable) span = to stack (states.ArrowSecond (iterated_of base start name variable))
arrow_first stack base start name symbol span =
    if takes_class name.text then refused stack
    else operand (frames.Arguments (record { before = before.Arrow base start; name = name }) [] ∷ stack) symbol span

-- behind `->name(variable`: it is one where `:` or `|` follows
abbrev pub arrow_second : List Frame → Iterated → Symbol → Span → Move
arrow_second stack it symbols.Colon span = to (frames.VariableType it ∷ stack) states.Type
arrow_second stack it symbols.Bar span = to (frames.Body it None ∷ stack) states.Operand
arrow_second stack it symbol span =
    if takes_class it.name.text then class_path stack (arrow_call it) (path_of it.variable) symbol span
    else on_path (frames.Arguments (arrow_call it) [] ∷ stack) (path_of it.variable) symbol span

abbrev pub plain_type : PlainType → Span → TypeTree
plain_type plain.Str span = types.Str span
plain_type plain.Int span = types.Int span
plain_type plain.Bool span = types.Bool span

abbrev pub type_begin : List Frame → Symbol → Span → Move
type_begin stack (symbols.Plain ty) span = to stack (states.TypeEnd (plain_type ty span))
type_begin stack (symbols.Kind kind) span = to stack (states.TypeParenthesis span.start kind)
type_begin stack (symbols.Name name) span = to stack (states.TypePath (path_of name))
type_begin stack symbol span = refused stack

abbrev pub type_end : List Frame → TypeTree → Symbol → Span → Move
type_end (frames.OfKind start kind ∷ stack) ty symbols.CloseParenthesis span = to stack (states.TypeEnd (types.Coll kind ty (from_to start span.end)))
type_end (frames.LetType start name ∷ stack) ty (symbols.Operator operators.Equal) span = to (frames.Let start name ty ∷ stack) states.Operand
type_end (frames.VariableType it ∷ stack) ty symbols.Bar span = to (frames.Body it (Some ty) ∷ stack) states.Operand
type_end stack ty symbol span = refused stack

abbrev pub type_path : List Frame → Path → Symbol → Span → Move
type_path stack path symbols.DoubleColon span =
    if nat_lt (length path.names) 2 then to stack (states.TypeName path) else type_end stack (types.Named path) symbols.DoubleColon span
type_path stack path symbol span = type_end stack (types.Named path) symbol span

-- a name, or else the symbol is refused
abbrev pub on_name : List Frame → (Name → State) → Symbol → Move
on_name stack next (symbols.Name name) = to stack (next name)
on_name stack next symbol = refused stack

abbrev pub on_colon : List Frame → ℕ → Name → Symbol → Move
on_colon stack start name symbols.Colon = to (frames.LetType start name ∷ stack) states.Type
on_colon stack start name symbol = refused stack

abbrev pub on_brace : List Frame → ℕ → Kind → Symbol → Move
on_brace stack start kind symbols.OpenBrace = to (frames.Elements start kind [] ∷ stack) states.Operand
on_brace stack start kind symbol = refused stack

abbrev pub on_type_parenthesis : List Frame → ℕ → Kind → Symbol → Move
on_type_parenthesis stack start kind symbols.OpenParenthesis = to (frames.OfKind start kind ∷ stack) states.Type
on_type_parenthesis stack start kind symbol = refused stack

abbrev pub on_arrow_parenthesis : List Frame → Base → ℕ → Name → Symbol → Move
on_arrow_parenthesis stack base start name symbols.OpenParenthesis = to stack (states.ArrowFirst base start name)
on_arrow_parenthesis stack base start name symbol = refused stack

-- what comes of one more symbol
unfoldable pub move : List Frame → State → Symbol → Span → Move
move stack states.Operand symbol span = operand stack symbol span
move stack (states.After base) symbol span = after stack base symbol span
move stack (states.Path path) symbol span = on_path stack path symbol span
move stack (states.PathName path) symbol span = on_name stack (λ n. states.Path (extended path n)) symbol
move stack (states.LetName start) symbol span = on_name stack (λ n. states.LetColon start n) symbol
move stack (states.LetColon start name) symbol span = on_colon stack start name symbol
move stack states.Type symbol span = type_begin stack symbol span
move stack (states.TypeParenthesis start kind) symbol span = on_type_parenthesis stack start kind symbol
move stack (states.TypePath path) symbol span = type_path stack path symbol span
move stack (states.TypeName path) symbol span = on_name stack (λ n. states.TypePath (extended path n)) symbol
move stack (states.TypeEnd ty) symbol span = type_end stack ty symbol span
move stack (states.Brace start kind) symbol span = on_brace stack start kind symbol
move stack (states.DotName base start) symbol span = on_name stack (λ n. states.Dotted base start n) symbol
move stack (states.Dotted base start name) symbol span = dotted stack base start name symbol span
move stack (states.ArrowName base start) symbol span = on_name stack (λ n. states.ArrowParenthesis base start n) symbol
move stack (states.ArrowParenthesis base start name) symbol span = on_arrow_parenthesis stack base start name symbol
move stack (states.ArrowFirst base start name) symbol span = arrow_first stack base start name symbol span
move stack (states.ArrowSecond it) symbol span = arrow_second stack it symbol span
move stack (states.ClassName called) symbol span = on_name stack (λ n. states.ClassPath called (path_of n)) symbol
move stack (states.ClassPath called path) symbol span = class_path stack called path symbol span
move stack (states.ClassNext called path) symbol span = on_name stack (λ n. states.ClassPath called (extended path n)) symbol

-- ---- levels

-- how many levels of nesting a construct opens
abbrev pub frame_levels : Frame → ℕ
frame_levels (frames.Row first rest operator) = 0
frame_levels frame = 1

abbrev pub open_levels : List Frame → ℕ
open_levels [] = 0
open_levels (frame ∷ stack) = frame_levels frame + open_levels stack

-- and what is in no frame yet
abbrev pub state_levels : State → ℕ
state_levels (states.LetName start) = 1
state_levels (states.LetColon start name) = 1
state_levels (states.ArrowFirst base start name) = 1
state_levels (states.ArrowSecond it) = 1
state_levels (states.ClassName called) = 1
state_levels (states.ClassPath called path) = 1
state_levels (states.ClassNext called path) = 1
state_levels state = 0
