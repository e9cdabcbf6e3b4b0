-- What the open constructs and the states say was read: each names the tokens that spell what it holds.
use Rattle.std.proofs.Common.{◌≡◌, ℕ, ◌+◌, ◌<◌, ◌≤◌, Bool, true, false, List, [], ◌∷◌, length, Option, Some}
use Rattle.std.specs.Prelude.{codes}
use Rattle.mof_metamodel.specs.declared.span.Span.{Span}
use Rattle.ql_lex.specs.Lexed.{Lexeme}
use Rattle.qv_syntax.specs.declared.name.Name.{Name}
use Rattle.qv_syntax.specs.declared.name.Path.{Path}
use Rattle.qv_syntax.specs.declared.operator.Operator.{Operator}
use Rattle.qv_syntax.specs.declared.type_tree.TypeTree.{TypeTree}
use Rattle.qv_syntax.specs.declared.expr.Expr.{Expr}
use Rattle.qv_syntax.specs.declared.expr.Infix.{Infix}
use Rattle.qv_syntax.specs.Operators.{level_of}
use Rattle.ql_lex.specs.Lexemes.{stands, is_sign, is_word, is_name, start_of, end_of, span_at}
use Rattle.ocl_parser.specs.Grammar.{names, type_of, binding, spelled, spelled_infixes, spelled_postfixes, spelled_list, are_of_level, is_operator, kind_word, bound, declared_variable, takes_class}
use Rattle.ocl_parser.specs.declared.frame.Subtree.{Subtree}
use Rattle.ocl_parser.specs.declared.frame.Base.{Base}
use Rattle.ocl_parser.specs.declared.frame.Before.{Before}
use Rattle.ocl_parser.specs.declared.frame.Before.TheVariants as before
use Rattle.ocl_parser.specs.declared.frame.CallHead.{CallHead}
use Rattle.ocl_parser.specs.declared.frame.Iterated.{Iterated}
use Rattle.ocl_parser.specs.declared.frame.Frame.{Frame}
use Rattle.ocl_parser.specs.declared.frame.Frame.TheVariants as frames
use Rattle.ocl_parser.specs.declared.state.State.{State}
use Rattle.ocl_parser.specs.declared.state.State.TheVariants as states
use Rattle.qv_syntax.specs.declared.type_tree.Kind.{Kind}

-- ---- parts of expressions, from the token of number a up to that of number b, with m levels left

-- where the token of this number stands
abbrev pub here : List Lexeme → ℕ → Span
here ts at = record { start = start_of ts at; end = end_of ts at }

abbrev pub IsSign : List Lexeme → List ℕ → ℕ → Type 0
IsSign ts text at = stands (is_sign text) ts at ≡ true

abbrev pub IsWord : List Lexeme → List ℕ → ℕ → Type 0
IsWord ts text at = stands (is_word text) ts at ≡ true

abbrev pub IsNamed : List Lexeme → Name → ℕ → Type 0
IsNamed ts name at = stands (is_name name) ts at ≡ true

pub record PartAt (ts : List Lexeme) (m : ℕ) (subtree : Subtree) (a b : ℕ) : Type 0 where
  pub whole : spelled ts m subtree.tree a ≡ Some b
  pub span : subtree.span ≡ span_at ts a b

pub record BaseAt (ts : List Lexeme) (m : ℕ) (base : Base) (a b : ℕ) : Type 0 where
  pub middle : ℕ
  pub first : spelled ts m base.of a ≡ Some middle
  pub tight : 10 ≤ binding ts base.of
  pub calls : spelled_postfixes ts m base.steps middle ≡ Some b
  pub span : base.span ≡ span_at ts a b

-- a part, a sign and a name
pub record StepAt (ts : List Lexeme) (m : ℕ) (text : List ℕ) (base : Base) (start : ℕ) (name : Name) (a b : ℕ) : Type 0 where
  pub at : ℕ
  pub subtree : BaseAt ts m base a at
  pub begin : start ≡ start_of ts at
  pub sign : IsSign ts text at
  pub named : IsNamed ts name (at + 1)
  pub end : b ≡ at + 1 + 1

abbrev pub BeforeAt : List Lexeme → ℕ → Before → Name → ℕ → ℕ → Type 0
BeforeAt ts m before.Nothing name a b = IsNamed ts name a × (b ≡ a + 1)
BeforeAt ts m (before.Dot base start) name a b = StepAt ts m (codes ".") base start name a b
BeforeAt ts m (before.Arrow base start) name a b = StepAt ts m (codes "->") base start name a b

abbrev pub CalledAt : List Lexeme → ℕ → CallHead → ℕ → ℕ → Type 0
CalledAt ts m called a b = BeforeAt ts m called.before called.name a b

-- an iterator up to its variable
pub record VariableAt (ts : List Lexeme) (m : ℕ) (it : Iterated) (a b : ℕ) : Type 0 where
  pub at : ℕ
  pub step : StepAt ts m (codes "->") it.base it.start it.name a at
  pub opens : IsSign ts (codes "(") at
  pub variable : IsNamed ts it.variable (at + 1)
  pub end : b ≡ at + 1 + 1

pub record PathAt (ts : List Lexeme) (most : ℕ) (path : Path) (a b : ℕ) : Type 0 where
  pub some : 0 < length path.names
  pub few : length path.names ≤ most
  pub names : (n : ℕ) → names ts path.names n a ≡ Some b
  pub span : path.span ≡ span_at ts a b

-- a path and `::`
pub record LongerPathAt (ts : List Lexeme) (most : ℕ) (path : Path) (a b : ℕ) : Type 0 where
  pub at : ℕ
  pub room : length path.names < most
  pub shorter : PathAt ts most path a at
  pub sign : IsSign ts (codes "::") at
  pub end : b ≡ at + 1

pub record CommaAt (ts : List Lexeme) (m : ℕ) (es : List Expr) (a b : ℕ) : Type 0 where
  pub at : ℕ
  pub list : spelled_list ts m es a ≡ Some at
  pub comma : IsSign ts (codes ",") at
  pub end : b ≡ at + 1

-- expressions, each with a `,` behind it
abbrev pub ListAt : List Lexeme → ℕ → List Expr → ℕ → ℕ → Type 0
ListAt ts m [] a b = b ≡ a
ListAt ts m (e ∷ es) a b = CommaAt ts m (e ∷ es) a b

-- ---- open constructs

-- the first token of a construct that opens a level
pub record OpensAt (ts : List Lexeme) (passes : Lexeme → Bool) (start n m a : ℕ) : Type 0 where
  pub level : n ≡ m + 1
  pub begin : start ≡ start_of ts a
  pub token : stands passes ts a ≡ true

pub record RowAt (ts : List Lexeme) (first : Subtree) (rest : List Infix) (operator : Operator) (n m a b : ℕ) : Type 0 where
  pub level : n ≡ m
  pub begin : first.span.start ≡ start_of ts a
  pub second : ℕ
  pub at : ℕ
  pub subtree : spelled ts m first.tree a ≡ Some second
  pub tight : level_of operator < binding ts first.tree
  pub infixes : spelled_infixes ts m rest second ≡ Some at
  pub even : are_of_level ts (level_of operator) rest ≡ true
  pub sign : stands (is_operator operator) ts at ≡ true
  pub end : b ≡ at + 1

pub record InAt (ts : List Lexeme) (name : Name) (ty : TypeTree) (value : Expr) (m a b : ℕ) : Type 0 where
  pub from : ℕ
  pub to : ℕ
  pub head : bound ts name ty m (a + 1) ≡ Some from
  pub subtree : spelled ts m value from ≡ Some to
  pub word : IsWord ts (codes "in") to
  pub end : b ≡ to + 1

pub record ThenAt (ts : List Lexeme) (condition : Expr) (m a b : ℕ) : Type 0 where
  pub at : ℕ
  pub subtree : spelled ts m condition (a + 1) ≡ Some at
  pub word : IsWord ts (codes "then") at
  pub end : b ≡ at + 1

pub record ElseAt (ts : List Lexeme) (condition one : Expr) (m a b : ℕ) : Type 0 where
  pub from : ℕ
  pub at : ℕ
  pub before : ThenAt ts condition m a from
  pub subtree : spelled ts m one from ≡ Some at
  pub word : IsWord ts (codes "else") at
  pub end : b ≡ at + 1

pub record ArgumentsAt (ts : List Lexeme) (called : CallHead) (values : List Expr) (n m a b : ℕ) : Type 0 where
  pub level : n ≡ m + 1
  pub at : ℕ
  pub call : CalledAt ts n called a at
  pub plain : takes_class called.name.text ≡ false
  pub opens : IsSign ts (codes "(") at
  pub list : ListAt ts m values (at + 1) b

pub record TypedAt (ts : List Lexeme) (it : Iterated) (n m a b : ℕ) : Type 0 where
  pub level : n ≡ m + 1
  pub at : ℕ
  pub variable : VariableAt ts n it a at
  pub colon : IsSign ts (codes ":") at
  pub end : b ≡ at + 1

pub record BodyAt (ts : List Lexeme) (it : Iterated) (ty : Option TypeTree) (n m a b : ℕ) : Type 0 where
  pub level : n ≡ m + 1
  pub at : ℕ
  pub step : StepAt ts n (codes "->") it.base it.start it.name a at
  pub variable : declared_variable ts it.variable ty m at ≡ Some b

-- what is open from the token of number a up to that of number b, with n levels left before it and m inside
abbrev pub FrameAt : List Lexeme → Frame → ℕ → ℕ → ℕ → ℕ → Type 0
FrameAt ts (frames.LetType start name) n m a b =
    OpensAt ts (is_word (codes "let")) start n m a × IsNamed ts name (a + 1) × IsSign ts (codes ":") (a + 1 + 1) × (b ≡ a + 1 + 1 + 1)
FrameAt ts (frames.Let start name ty) n m a b = OpensAt ts (is_word (codes "let")) start n m a × (bound ts name ty m (a + 1) ≡ Some b)
FrameAt ts (frames.In start name ty value) n m a b = OpensAt ts (is_word (codes "let")) start n m a × InAt ts name ty value m a b
FrameAt ts (frames.Not start) n m a b = OpensAt ts (is_word (codes "not")) start n m a × (b ≡ a + 1)
FrameAt ts (frames.Negated start) n m a b = OpensAt ts (is_sign (codes "-")) start n m a × (b ≡ a + 1)
FrameAt ts (frames.Row first rest operator) n m a b = RowAt ts first rest operator n m a b
FrameAt ts (frames.Parens start) n m a b = OpensAt ts (is_sign (codes "(")) start n m a × (b ≡ a + 1)
FrameAt ts (frames.If start) n m a b = OpensAt ts (is_word (codes "if")) start n m a × (b ≡ a + 1)
FrameAt ts (frames.Then start condition) n m a b = OpensAt ts (is_word (codes "if")) start n m a × ThenAt ts condition m a b
FrameAt ts (frames.Else start condition one) n m a b = OpensAt ts (is_word (codes "if")) start n m a × ElseAt ts condition one m a b
FrameAt ts (frames.Elements start kind elements) n m a b =
    OpensAt ts (is_word (kind_word kind)) start n m a × IsSign ts (codes "{") (a + 1) × ListAt ts m elements (a + 1 + 1) b
FrameAt ts (frames.Arguments called values) n m a b = ArgumentsAt ts called values n m a b
FrameAt ts (frames.VariableType it) n m a b = TypedAt ts it n m a b
FrameAt ts (frames.Body it ty) n m a b = BodyAt ts it ty n m a b
FrameAt ts (frames.OfKind start kind) n m a b = OpensAt ts (is_word (kind_word kind)) start n m a × IsSign ts (codes "(") (a + 1) × (b ≡ a + 1 + 1)

-- how tightly at least a part binds that stands behind what is open
abbrev pub floor : List Frame → ℕ
floor [] = 0
floor (frames.Row first rest operator ∷ stack) = level_of operator + 1
floor (frames.Not start ∷ stack) = 8
floor (frames.Negated start ∷ stack) = 8
floor (frame ∷ stack) = 0

-- how tightly what is open will bind at least
abbrev pub frame_binding : Frame → ℕ
frame_binding (frames.Row first rest operator) = level_of operator
frame_binding (frames.LetType start name) = 0
frame_binding (frames.Let start name ty) = 0
frame_binding (frames.In start name ty value) = 0
frame_binding frame = 8

pub record OnTop (Below : ℕ → ℕ → Type 0) (Frame : ℕ → ℕ → Type 0) (Fits : Type 0) : Type 0 where
  pub a : ℕ
  pub n : ℕ
  pub below : Below a n
  pub frame : Frame a n
  pub fits : Fits

-- The constructs are open one behind the other: the outermost begins at the token of number `from`, and the innermost goes
-- up to that of number b and has m levels left.
abbrev pub Holds : List Lexeme → ℕ → ℕ → List Frame → ℕ → ℕ → Type 0
Holds ts from levels [] b m = (b ≡ from) × (m ≡ levels)
Holds ts from levels (frame ∷ stack) b m = OnTop (Holds ts from levels stack) (λ a n. FrameAt ts frame n m a b) (floor stack ≤ frame_binding frame)

-- ---- states

pub record Standing (ts : List Lexeme) (from levels : ℕ) (stack : List Frame) (Read : ℕ → ℕ → Type 0) : Type 0 where
  pub a : ℕ
  pub n : ℕ
  pub below : Holds ts from levels stack a n
  pub read : Read a n

pub record LetAt (ts : List Lexeme) (stack : List Frame) (start n a : ℕ) : Type 0 where
  pub m : ℕ
  pub opens : OpensAt ts (is_word (codes "let")) start n m a
  pub free : floor stack ≤ 0

-- the kind of a collection, which opens no level yet
abbrev pub KindAt : List Lexeme → Kind → ℕ → ℕ → ℕ → Type 0
KindAt ts kind start a b = (start ≡ start_of ts a) × IsWord ts (kind_word kind) a × (b ≡ a + 1)

pub record CallOpenAt (ts : List Lexeme) (called : CallHead) (n a b : ℕ) : Type 0 where
  pub m : ℕ
  pub level : n ≡ m + 1
  pub at : ℕ
  pub call : CalledAt ts n called a at
  pub opens : IsSign ts (codes "(") at
  pub end : b ≡ at + 1

-- a call whose argument is a class
pub record ClassOpenAt (ts : List Lexeme) (called : CallHead) (n a b : ℕ) : Type 0 where
  pub call : CallOpenAt ts called n a b
  pub class : takes_class called.name.text ≡ true

pub record IteratorAt (ts : List Lexeme) (it : Iterated) (n a b : ℕ) : Type 0 where
  pub m : ℕ
  pub level : n ≡ m + 1
  pub variable : VariableAt ts n it a b

pub record DotNameAt (ts : List Lexeme) (text : List ℕ) (base : Base) (start n a b : ℕ) : Type 0 where
  pub at : ℕ
  pub subtree : BaseAt ts n base a at
  pub begin : start ≡ start_of ts at
  pub sign : IsSign ts text at
  pub end : b ≡ at + 1

pub record ClassPathAt (ts : List Lexeme) (called : CallHead) (Path : ℕ → Type 0) (n a : ℕ) : Type 0 where
  pub from : ℕ
  pub call : ClassOpenAt ts called n a from
  pub path : Path from

-- what was read up to the token of number b
abbrev pub StateAt : List Lexeme → ℕ → ℕ → List Frame → State → ℕ → Type 0
StateAt ts from levels stack states.Operand b = (n : ℕ) × Holds ts from levels stack b n
StateAt ts from levels stack (states.After base) b = Standing ts from levels stack (λ a n. BaseAt ts n base a b)
StateAt ts from levels stack (states.Path path) b = Standing ts from levels stack (λ a n. PathAt ts 3 path a b)
StateAt ts from levels stack (states.PathName path) b = Standing ts from levels stack (λ a n. LongerPathAt ts 3 path a b)
StateAt ts from levels stack (states.LetName start) b = Standing ts from levels stack (λ a n. LetAt ts stack start n a × (b ≡ a + 1))
StateAt ts from levels stack (states.LetColon start name) b =
    Standing ts from levels stack (λ a n. LetAt ts stack start n a × IsNamed ts name (a + 1) × (b ≡ a + 1 + 1))
StateAt ts from levels stack states.Type b = (n : ℕ) × Holds ts from levels stack b n
StateAt ts from levels stack (states.TypeParenthesis start kind) b = Standing ts from levels stack (λ a n. KindAt ts kind start a b)
StateAt ts from levels stack (states.TypePath path) b = Standing ts from levels stack (λ a n. PathAt ts 2 path a b)
StateAt ts from levels stack (states.TypeName path) b = Standing ts from levels stack (λ a n. LongerPathAt ts 2 path a b)
StateAt ts from levels stack (states.TypeEnd ty) b = Standing ts from levels stack (λ a n. type_of ts ty n a ≡ Some b)
StateAt ts from levels stack (states.Brace start kind) b = Standing ts from levels stack (λ a n. KindAt ts kind start a b)
StateAt ts from levels stack (states.DotName base start) b = Standing ts from levels stack (λ a n. DotNameAt ts (codes ".") base start n a b)
StateAt ts from levels stack (states.Dotted base start name) b = Standing ts from levels stack (λ a n. StepAt ts n (codes ".") base start name a b)
StateAt ts from levels stack (states.ArrowName base start) b = Standing ts from levels stack (λ a n. DotNameAt ts (codes "->") base start n a b)
StateAt ts from levels stack (states.ArrowParenthesis base start name) b = Standing ts from levels stack (λ a n. StepAt ts n (codes "->") base start name a b)
StateAt ts from levels stack (states.ArrowFirst base start name) b =
    Standing ts from levels stack (λ a n. CallOpenAt ts (record { before = before.Arrow base start; name = name }) n a b)
StateAt ts from levels stack (states.ArrowSecond it) b = Standing ts from levels stack (λ a n. IteratorAt ts it n a b)
StateAt ts from levels stack (states.ClassName called) b = Standing ts from levels stack (λ a n. ClassOpenAt ts called n a b)
StateAt ts from levels stack (states.ClassPath called path) b = Standing ts from levels stack (λ a n. ClassPathAt ts called (λ from. PathAt ts 2 path from b) n a)
StateAt ts from levels stack (states.ClassNext called path) b = Standing ts from levels stack (λ a n. ClassPathAt ts called (λ from. LongerPathAt ts 2 path from b) n a)
