-- What ends types, and an expression in each state.
use Rattle.std.proofs.Common.{◌≡◌, ℕ, ◌+◌, ◌≤◌, Bool, true, false, List, [], ◌∷◌, Some, refl, arith}
use Rattle.std.specs.Prelude.{codes}
use Rattle.mof_metamodel.specs.declared.span.Span.{Span}
use Rattle.ql_lex.specs.Lexed.{Lexeme}
use Rattle.qv_syntax.specs.declared.name.Name.{Name}
use Rattle.qv_syntax.specs.declared.name.Path.{Path}
use Rattle.qv_syntax.specs.declared.operator.Operator.TheVariants as operators
use Rattle.qv_syntax.specs.declared.type_tree.TypeTree.{TypeTree}
use Rattle.qv_syntax.specs.declared.type_tree.TypeTree.TheVariants as types
use Rattle.qv_syntax.specs.declared.expr.Expr.TheVariants as exprs
use Rattle.qv_syntax.specs.declared.expr.Postfix.TheVariants as postfixes
use Rattle.qv_syntax.specs.declared.expr.Args.TheVariants as args
use Rattle.ocl_parser.specs.Grammar.{takes_class}
use Rattle.std.specs.Str.{chars}
use Rattle.ql_lex.specs.Lexemes.{name_text}
use Rattle.ql_lex.specs.Symbols.{symbol_of}
use Rattle.ocl_parser.specs.Moves.{move, to, from_to, base_of, subtree_of, with_postfix, with_args, path_of, extended, path_by, reduced, closed, type_end, arrow_call, iterated_of, open_levels}
use Rattle.ql_lex.specs.Symbols.{nowhere}
use Rattle.ocl_parser.specs.Completion.{Ends, closing, completion, needed_levels, reserved, mark, null, some_name, closes, are_expressions, is_type, is_open}
use Rattle.ql_lex.specs.declared.symbol.Symbol.{Symbol}
use Rattle.ql_lex.specs.declared.symbol.Symbol.TheVariants as symbols
use Rattle.ql_lex.specs.declared.symbol.PlainType.TheVariants as plain
use Rattle.ocl_parser.specs.declared.frame.Base.{Base}
use Rattle.ocl_parser.specs.declared.frame.CallHead.{CallHead}
use Rattle.ocl_parser.specs.declared.frame.Iterated.{Iterated}
use Rattle.ocl_parser.specs.declared.frame.Frame.{Frame}
use Rattle.ocl_parser.specs.declared.frame.Frame.TheVariants as frames
use Rattle.ocl_parser.specs.declared.state.State.{State}
use Rattle.ocl_parser.specs.declared.state.State.TheVariants as states
use Rattle.ocl_parser.proofs.CompletionSteps.{step, is_closing, is_string, is_equal, is_bar, is_colon, is_open_parenthesis, is_open_brace, is_close_brace}
use Rattle.ocl_parser.proofs.CompletionClosing.{IsBehind, is_closer, behind_after, operand_closes, closes_let, closes_body, closing_closes}

-- ---- types

abbrev pub is_type_closer : Symbol → Bool
is_type_closer symbols.CloseParenthesis = true
is_type_closer symbols.Bar = true
is_type_closer (symbols.Operator operators.Equal) = true
is_type_closer symbol = false

-- such a symbol ends this type in this state
abbrev pub IsBehindType : List Frame → State → TypeTree → Type 0
IsBehindType stack state ty = (symbol : Symbol) (span : Span) → is_type_closer symbol ≡ true → move stack state symbol span ≡ type_end stack ty symbol span

behind_type : (stack : List Frame) (ty : TypeTree) → IsBehindType stack (states.TypeEnd ty) ty
unfolding move
behind_type stack ty symbol span h = refl

behind_type_path : (stack : List Frame) (path : Path) → IsBehindType stack (states.TypePath path) (types.Named path)
unfolding move
behind_type_path stack path symbols.CloseParenthesis span h = refl
behind_type_path stack path symbols.Bar span h = refl
behind_type_path stack path (symbols.Operator operators.Equal) span h = refl
behind_type_path stack path symbol span h = cc

type_closes : (levels : ℕ) (stack : List Frame) → is_type stack ≡ true → open_levels stack ≤ levels → (ty : TypeTree) (state : State) (at : ℕ) → IsBehindType stack state ty → Ends levels (closing stack) stack state at
unfolding closing
type_closes levels [] typed fits ty state at h = cc
type_closes levels (frames.LetType start name ∷ stack) typed fits ty state at h =
    step levels at (frames.LetType start name ∷ stack) state (mark (codes "=")) (null ∷ reserved (codes "in") ∷ null ∷ closing stack) (symbols.Operator operators.Equal) (frames.Let start name ty ∷ stack) states.Operand
    is_equal (h (symbols.Operator operators.Equal) nowhere refl) (omega arith)
    (operand_closes levels (frames.Let start name ty ∷ stack) (reserved (codes "in") ∷ null ∷ closing stack) (at + 1) fits
    (closes_let levels stack (closing stack) start name ty fits (closing_closes levels stack typed (omega arith))))
type_closes levels (frames.VariableType it ∷ stack) typed fits ty state at h =
    step levels at (frames.VariableType it ∷ stack) state (mark (codes "|")) (null ∷ closes ∷ closing stack) symbols.Bar (frames.Body it (Some ty) ∷ stack) states.Operand
    is_bar (h symbols.Bar nowhere refl) (omega arith)
    (operand_closes levels (frames.Body it (Some ty) ∷ stack) (closes ∷ closing stack) (at + 1) fits
    (closes_body levels stack (closing stack) it (Some ty) (omega arith) (closing_closes levels stack typed (omega arith))))
type_closes levels (frames.OfKind start kind ∷ stack) typed fits ty state at h =
    let whole : TypeTree = types.Coll kind ty (from_to start 0) in
    step levels at (frames.OfKind start kind ∷ stack) state closes (closing stack) symbols.CloseParenthesis stack (states.TypeEnd whole)
    is_closing (h symbols.CloseParenthesis nowhere refl) (omega arith)
    (type_closes levels stack typed (omega arith) whole (states.TypeEnd whole) (at + 1) (behind_type stack whole))
type_closes levels (frame ∷ stack) typed fits ty state at h = cc

-- a type that begins
type_begins : (levels : ℕ) (stack : List Frame) (at : ℕ) → is_type stack ≡ true → open_levels stack ≤ levels → Ends levels (reserved (codes "String") ∷ closing stack) stack states.Type at
unfolding move
type_begins levels stack at typed fits =
    step levels at stack states.Type (reserved (codes "String")) (closing stack) (symbols.Plain plain.Str) stack (states.TypeEnd (types.Str nowhere)) is_string refl (omega arith)
    (type_closes levels stack typed fits (types.Str nowhere) (states.TypeEnd (types.Str nowhere)) (at + 1) (behind_type stack (types.Str nowhere)))

-- ---- operands

abbrev pub path_base : Path → Base
path_base path = base_of (exprs.Named path) path.span

path_closer : (names : List Name) (stack : List Frame) (path : Path) (symbol : Symbol) (span : Span) → is_closer symbol ≡ true
    → path_by names stack path symbol span ≡ closed (reduced 0 stack (subtree_of (path_base path))) symbol span
path_closer [] stack path symbols.In span h = refl
path_closer [] stack path symbols.Then span h = refl
path_closer [] stack path symbols.Else span h = refl
path_closer [] stack path symbols.Endif span h = refl
path_closer [] stack path symbols.CloseParenthesis span h = refl
path_closer [] stack path symbols.CloseBrace span h = refl
path_closer [] stack path symbols.Other span h = refl
path_closer [] stack path symbol span h = cc
path_closer (x ∷ []) stack path symbols.In span h = refl
path_closer (x ∷ []) stack path symbols.Then span h = refl
path_closer (x ∷ []) stack path symbols.Else span h = refl
path_closer (x ∷ []) stack path symbols.Endif span h = refl
path_closer (x ∷ []) stack path symbols.CloseParenthesis span h = refl
path_closer (x ∷ []) stack path symbols.CloseBrace span h = refl
path_closer (x ∷ []) stack path symbols.Other span h = refl
path_closer (x ∷ []) stack path symbol span h = cc
path_closer (x ∷ y ∷ ns) stack path symbols.In span h = refl
path_closer (x ∷ y ∷ ns) stack path symbols.Then span h = refl
path_closer (x ∷ y ∷ ns) stack path symbols.Else span h = refl
path_closer (x ∷ y ∷ ns) stack path symbols.Endif span h = refl
path_closer (x ∷ y ∷ ns) stack path symbols.CloseParenthesis span h = refl
path_closer (x ∷ y ∷ ns) stack path symbols.CloseBrace span h = refl
path_closer (x ∷ y ∷ ns) stack path symbols.Other span h = refl
path_closer (x ∷ y ∷ ns) stack path symbol span h = cc

behind_path : (stack : List Frame) (path : Path) → IsBehind stack (states.Path path) stack (subtree_of (path_base path))
unfolding move
behind_path stack path = path_closer path.names stack path

behind_dotted : (stack : List Frame) (base : Base) (start : ℕ) (name : Name) → IsBehind stack (states.Dotted base start name) stack (subtree_of (with_postfix base (postfixes.Property name) name.span.end))
unfolding move
behind_dotted stack base start name symbols.In span h = refl
behind_dotted stack base start name symbols.Then span h = refl
behind_dotted stack base start name symbols.Else span h = refl
behind_dotted stack base start name symbols.Endif span h = refl
behind_dotted stack base start name symbols.CloseParenthesis span h = refl
behind_dotted stack base start name symbols.CloseBrace span h = refl
behind_dotted stack base start name symbols.Other span h = refl
behind_dotted stack base start name symbol span h = cc

-- the name that `some_name` writes
abbrev a_name : Name
a_name = record { text = chars (codes "a"); span = nowhere }

is_name : symbol_of some_name ≡ symbols.Name a_name
unfolding symbol_of name_text
is_name = refl

-- what ends an expression behind an operand
after_ends : (levels : ℕ) (stack : List Frame) (base : Base) (at : ℕ) → are_expressions stack ≡ true → open_levels stack ≤ levels → Ends levels (closing stack) stack (states.After base) at
after_ends levels stack base at plain fits = closing_closes levels stack plain fits (subtree_of base) stack (states.After base) at (behind_after stack base)

path_ends : (levels : ℕ) (stack : List Frame) (path : Path) (at : ℕ) → are_expressions stack ≡ true → open_levels stack ≤ levels → Ends levels (closing stack) stack (states.Path path) at
path_ends levels stack path at plain fits = closing_closes levels stack plain fits (subtree_of (path_base path)) stack (states.Path path) at (behind_path stack path)

dotted_ends : (levels : ℕ) (stack : List Frame) (base : Base) (start : ℕ) (name : Name) (at : ℕ) → are_expressions stack ≡ true → open_levels stack ≤ levels → Ends levels (closing stack) stack (states.Dotted base start name) at
dotted_ends levels stack base start name at plain fits =
    closing_closes levels stack plain fits (subtree_of (with_postfix base (postfixes.Property name) name.span.end)) stack (states.Dotted base start name) at (behind_dotted stack base start name)

-- a token that ends an operand
closed_ends : (levels : ℕ) (stack : List Frame) (state : State) (l : Lexeme) (symbol : Symbol) (base : Base) (at : ℕ) → are_expressions stack ≡ true → open_levels stack ≤ levels
    → symbol_of l ≡ symbol → move stack state symbol l.token.span ≡ to stack (states.After base) → Ends levels (l ∷ closing stack) stack state at
closed_ends levels stack state l symbol base at plain fits is e =
    step levels at stack state l (closing stack) symbol stack (states.After base) is e (omega arith) (after_ends levels stack base (at + 1) plain fits)

class_path_ends : (levels : ℕ) (stack : List Frame) (called : CallHead) (path : Path) (at : ℕ) → are_expressions stack ≡ true → open_levels stack ≤ levels → Ends levels (closes ∷ closing stack) stack (states.ClassPath called path) at
unfolding move
class_path_ends levels stack called path at plain fits =
    closed_ends levels stack (states.ClassPath called path) closes symbols.CloseParenthesis (with_args called (args.Class path) 0) at plain fits is_closing refl

arrow_second_ends : (levels : ℕ) (stack : List Frame) (it : Iterated) (at : ℕ) → are_expressions stack ≡ true → open_levels stack ≤ levels → Ends levels (closes ∷ closing stack) stack (states.ArrowSecond it) at
unfolding move reduced
arrow_second_ends levels stack it at plain fits = by (takes_class it.name.text) refl
  where
    by : (b : Bool) → takes_class it.name.text ≡ b → Ends levels (closes ∷ closing stack) stack (states.ArrowSecond it) at
    by true e = closed_ends levels stack (states.ArrowSecond it) closes symbols.CloseParenthesis (with_args (arrow_call it) (args.Class (path_of it.variable)) 0) at plain fits is_closing (rw e refl)
    by false e = closed_ends levels stack (states.ArrowSecond it) closes symbols.CloseParenthesis (with_args (arrow_call it) (args.Values (exprs.Named (path_of it.variable) ∷ [])) 0) at plain fits is_closing (rw e refl)

arrow_first_ends : (levels : ℕ) (stack : List Frame) (base : Base) (start : ℕ) (name : Name) (at : ℕ) → are_expressions stack ≡ true → open_levels stack + 1 ≤ levels → Ends levels (some_name ∷ closes ∷ closing stack) stack (states.ArrowFirst base start name) at
unfolding move
arrow_first_ends levels stack base start name at plain fits =
    step levels at stack (states.ArrowFirst base start name) some_name (closes ∷ closing stack) (symbols.Name a_name) stack (states.ArrowSecond (iterated_of base start name a_name)) is_name refl fits
    (arrow_second_ends levels stack (iterated_of base start name a_name) (at + 1) plain (omega arith))

arrow_parenthesis_ends : (levels : ℕ) (stack : List Frame) (base : Base) (start : ℕ) (name : Name) (at : ℕ) → are_expressions stack ≡ true → open_levels stack + 1 ≤ levels
    → Ends levels (mark (codes "(") ∷ some_name ∷ closes ∷ closing stack) stack (states.ArrowParenthesis base start name) at
unfolding move
arrow_parenthesis_ends levels stack base start name at plain fits =
    step levels at stack (states.ArrowParenthesis base start name) (mark (codes "(")) (some_name ∷ closes ∷ closing stack) symbols.OpenParenthesis stack (states.ArrowFirst base start name) is_open_parenthesis refl fits
    (arrow_first_ends levels stack base start name (at + 1) plain fits)

let_colon_ends : (levels : ℕ) (stack : List Frame) (start : ℕ) (name : Name) (at : ℕ) → are_expressions stack ≡ true → open_levels stack + 1 ≤ levels
    → Ends levels (mark (codes ":") ∷ reserved (codes "String") ∷ closing (frames.LetType start name ∷ stack)) stack (states.LetColon start name) at
unfolding move
let_colon_ends levels stack start name at plain fits =
    step levels at stack (states.LetColon start name) (mark (codes ":")) (reserved (codes "String") ∷ closing (frames.LetType start name ∷ stack)) symbols.Colon (frames.LetType start name ∷ stack) states.Type is_colon refl (omega arith)
    (type_begins levels (frames.LetType start name ∷ stack) (at + 1) plain (omega arith))

-- an expression in each state
pub state_ends : (levels : ℕ) (stack : List Frame) (state : State) (at : ℕ) → is_open stack state ≡ true → needed_levels stack state ≤ levels → Ends levels (completion stack state) stack state at
unfolding move closing
state_ends levels stack states.Operand at opened fits = operand_closes levels stack (closing stack) at (omega arith) (closing_closes levels stack opened (omega arith))
state_ends levels stack (states.After base) at opened fits = after_ends levels stack base at opened (omega arith)
state_ends levels stack (states.Path path) at opened fits = path_ends levels stack path at opened (omega arith)
state_ends levels stack (states.PathName path) at opened fits =
    step levels at stack (states.PathName path) some_name (closing stack) (symbols.Name a_name) stack (states.Path (extended path a_name)) is_name refl (omega arith)
    (path_ends levels stack (extended path a_name) (at + 1) opened (omega arith))
state_ends levels stack (states.LetName start) at opened fits =
    step levels at stack (states.LetName start) some_name (mark (codes ":") ∷ reserved (codes "String") ∷ closing (frames.LetType start a_name ∷ stack)) (symbols.Name a_name) stack (states.LetColon start a_name) is_name refl (omega arith)
    (let_colon_ends levels stack start a_name (at + 1) opened (omega arith))
state_ends levels stack (states.LetColon start name) at opened fits = let_colon_ends levels stack start name at opened (omega arith)
state_ends levels stack states.Type at opened fits = type_begins levels stack at opened (omega arith)
state_ends levels stack (states.TypeParenthesis start kind) at opened fits =
    step levels at stack (states.TypeParenthesis start kind) (mark (codes "(")) (reserved (codes "String") ∷ closes ∷ closing stack) symbols.OpenParenthesis (frames.OfKind start kind ∷ stack) states.Type is_open_parenthesis refl (omega arith)
    (type_begins levels (frames.OfKind start kind ∷ stack) (at + 1) opened (omega arith))
state_ends levels stack (states.TypePath path) at opened fits = type_closes levels stack opened (omega arith) (types.Named path) (states.TypePath path) at (behind_type_path stack path)
state_ends levels stack (states.TypeName path) at opened fits =
    step levels at stack (states.TypeName path) some_name (closing stack) (symbols.Name a_name) stack (states.TypePath (extended path a_name)) is_name refl (omega arith)
    (type_closes levels stack opened (omega arith) (types.Named (extended path a_name)) (states.TypePath (extended path a_name)) (at + 1) (behind_type_path stack (extended path a_name)))
state_ends levels stack (states.TypeEnd ty) at opened fits = type_closes levels stack opened (omega arith) ty (states.TypeEnd ty) at (behind_type stack ty)
state_ends levels stack (states.Brace start kind) at opened fits =
    step levels at stack (states.Brace start kind) (mark (codes "{")) (mark (codes "}") ∷ closing stack) symbols.OpenBrace (frames.Elements start kind [] ∷ stack) states.Operand is_open_brace refl (omega arith)
    (step levels (at + 1) (frames.Elements start kind [] ∷ stack) states.Operand (mark (codes "}")) (closing stack) symbols.CloseBrace stack (states.After (base_of (exprs.Coll kind [] (from_to start 0)) (from_to start 0))) is_close_brace refl (omega arith)
    (after_ends levels stack (base_of (exprs.Coll kind [] (from_to start 0)) (from_to start 0)) (at + 1 + 1) opened (omega arith)))
state_ends levels stack (states.DotName base start) at opened fits =
    step levels at stack (states.DotName base start) some_name (closing stack) (symbols.Name a_name) stack (states.Dotted base start a_name) is_name refl (omega arith)
    (dotted_ends levels stack base start a_name (at + 1) opened (omega arith))
state_ends levels stack (states.Dotted base start name) at opened fits = dotted_ends levels stack base start name at opened (omega arith)
state_ends levels stack (states.ArrowName base start) at opened fits =
    step levels at stack (states.ArrowName base start) some_name (mark (codes "(") ∷ some_name ∷ closes ∷ closing stack) (symbols.Name a_name) stack (states.ArrowParenthesis base start a_name) is_name refl (omega arith)
    (arrow_parenthesis_ends levels stack base start a_name (at + 1) opened (omega arith))
state_ends levels stack (states.ArrowParenthesis base start name) at opened fits = arrow_parenthesis_ends levels stack base start name at opened (omega arith)
state_ends levels stack (states.ArrowFirst base start name) at opened fits = arrow_first_ends levels stack base start name at opened (omega arith)
state_ends levels stack (states.ArrowSecond it) at opened fits = arrow_second_ends levels stack it at opened (omega arith)
state_ends levels stack (states.ClassName called) at opened fits =
    step levels at stack (states.ClassName called) some_name (closes ∷ closing stack) (symbols.Name a_name) stack (states.ClassPath called (path_of a_name)) is_name refl (omega arith)
    (class_path_ends levels stack called (path_of a_name) (at + 1) opened (omega arith))
state_ends levels stack (states.ClassPath called path) at opened fits = class_path_ends levels stack called path at opened (omega arith)
state_ends levels stack (states.ClassNext called path) at opened fits =
    step levels at stack (states.ClassNext called path) some_name (closes ∷ closing stack) (symbols.Name a_name) stack (states.ClassPath called (extended path a_name)) is_name refl (omega arith)
    (class_path_ends levels stack called (extended path a_name) (at + 1) opened (omega arith))
