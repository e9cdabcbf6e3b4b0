-- When a typed expression is what it should be: each node has the type that the language gives it, and each number in it names what is
-- there (OCL 2.4, chapters 8 and 11). A rule for each form; the rules on types alone stand in TypeRules. Beside its type an expression
-- has the model of its objects, where it gives objects of one.
use Rattle.std.specs.Prelude.{◌≡◌, ◌<◌, ◌⊎◌, ℕ, ℤ, Bool, List, [], ◌∷◌, ◌++◌, map, length, Option, None, Some, slice_get}
use Rattle.mof_metamodel.specs.declared.desc.MetaDesc.{MetaDesc}
use Rattle.mof_metamodel.specs.declared.desc.ClassId.{ClassId}
use Rattle.mof_metamodel.specs.declared.desc.EnumId.{EnumId}
use Rattle.mof_metamodel.specs.declared.desc.PropId.{PropId}
use Rattle.mof_metamodel.specs.Metamodels.{enum_at}
use Rattle.qv_syntax.specs.declared.ty.Ty.{Ty}
use Rattle.qv_syntax.specs.declared.ty.Ty.TheVariants as types
use Rattle.qv_syntax.specs.declared.type_tree.Kind.{Kind}
use Rattle.qv_syntax.specs.declared.type_tree.Kind.TheVariants as kinds
use Rattle.qv_syntax.specs.declared.operator.Operator.{Operator}
use Rattle.qv_syntax.specs.declared.operation.Operation.{Operation}
use Rattle.qv_syntax.specs.declared.operation.ClassOperation.{ClassOperation}
use Rattle.qv_syntax.specs.declared.operation.CollectionOperation.{CollectionOperation}
use Rattle.qv_syntax.specs.declared.operation.CollectionOperation.TheVariants as of_collections
use Rattle.qv_syntax.specs.declared.operation.IteratorKind.{IteratorKind}
use Rattle.qv_syntax.specs.declared.operation.IteratorKind.TheVariants as iterators
use Rattle.qv_syntax.specs.declared.query.ModelSlot.{ModelSlot}
use Rattle.qv_syntax.specs.declared.typed.Typed.{Typed}
use Rattle.qv_syntax.specs.declared.typed.Node.TheVariants as nodes
use Rattle.qv_syntax.specs.declared.typed.Call.{Call}
use Rattle.qv_syntax.specs.declared.typed.Call.TheVariants as calls
use Rattle.qv_syntax.specs.declared.typed.TypedInfix.{TypedInfix}
use Rattle.qv_syntax.specs.declared.typed.TypedPostfix.{TypedPostfix}
use Rattle.qv_syntax.specs.declared.typed.Values.{Values}
use Rattle.qv_syntax.specs.Types.{IsClassIn, IsEnumIn, IsWrittenType, ConformsTo, AllConform, model_for, IsOneModel}
use Rattle.qv_syntax.specs.TypeRules.{Operated, Branches, Elements, HasProperty, navigated, OperationGives, ClassOperationGives, CollectionGives, IteratorGives, collected_kind}

-- ---- what expressions may name

-- the types of a query's parameters and of its result
pub record QueryType : Type 0 where
  pub params : List Ty
  pub result : Ty

-- the metamodels of a script, its models and its queries
pub record Context : Type 0 where
  pub metas : List MetaDesc
  pub slots : List ModelSlot
  pub queries : List QueryType

-- the type of a variable or of an expression, and the model of its objects
pub record Typing : Type 0 where
  pub ty : Ty
  pub model : Option ℕ

-- a value that is no object, or one that has no model
abbrev pub without_model : Ty → Typing
without_model ty = record { ty = ty; model = None }

-- objects of the model, if values of the type are objects
abbrev pub objects_of : Ty → Option ℕ → Typing
objects_of ty model = record { ty = ty; model = model_for ty model }

abbrev pub types_of : List Typing → List Ty
types_of parts = map (λ p. p.ty) parts

abbrev pub models_of : List Typing → List (Option ℕ)
models_of parts = map (λ p. p.model) parts

-- the variables in reach, by their numbers, and one more behind them
abbrev pub Variables : Type 0
Variables = List Typing

abbrev pub with_variable : Variables → Typing → Variables
with_variable vars v = vars ++ v ∷ []

-- the enumeration has a literal of this number
pub record IsLiteralIn (metas : List MetaDesc) (m : ℕ) (enumeration : EnumId) (literal : ℕ) : Type 0 where
  pub has : IsEnumIn metas m enumeration
  pub within : literal < length (enum_at has.meta enumeration.0).literals

-- the model is one of a metamodel that has the class, and no other model is of that metamodel
pub record IsOnlyModelOf (context : Context) (model meta : ℕ) (class : ClassId) : Type 0 where
  pub slot : ModelSlot
  pub found : slice_get context.slots model ≡ Some slot
  pub typed : slot.meta ≡ meta
  pub has : IsClassIn context.metas meta class
  pub alone : (other : ℕ) (s : ModelSlot) → slice_get context.slots other ≡ Some s → s.meta ≡ meta → other ≡ model

-- the type of an iterator's variable: that of the elements, or a written one to which this conforms
abbrev pub IsElementVariable : List MetaDesc → Ty → Ty → Type 0
IsElementVariable metas of ty = (ty ≡ of) ⊎ (IsWrittenType metas ty × ConformsTo metas of ty)

-- the model of what an operation on a collection gives, of that of the collection and of the one model of all parts: `excluding` gives no
-- new objects
abbrev pub given_model : CollectionOperation → Option ℕ → Option ℕ → Option ℕ
given_model of_collections.Excluding model joined = model
given_model operation model joined = joined

-- `collect` gives objects of the body, the other iterators those of the collection
abbrev pub iterated_model : IteratorKind → Option ℕ → Option ℕ → Option ℕ
iterated_model iterators.Collect model body = body
iterated_model iterator model body = model

-- ---- the rules

mutual
  -- an expression with these variables in reach
  pub data IsTyped (context : Context) : Variables → Typed → Typing → Type 0 where
    number : (vars : Variables) (value : ℤ) → IsTyped context vars (record { ty = types.Int; node = nodes.Number value }) (without_model types.Int)
    string : (vars : Variables) (text : List ℕ) → IsTyped context vars (record { ty = types.Str; node = nodes.Str text }) (without_model types.Str)
    boolean : (vars : Variables) (value : Bool) → IsTyped context vars (record { ty = types.Bool; node = nodes.Bool value }) (without_model types.Bool)
    null : (vars : Variables) → IsTyped context vars (record { ty = types.Null; node = nodes.Null }) (without_model types.Null)
    invalid : (vars : Variables) → IsTyped context vars (record { ty = types.Null; node = nodes.Invalid }) (without_model types.Null)
    enum_literal : (vars : Variables) (m : ℕ) (enumeration : EnumId) (literal : ℕ) → IsLiteralIn context.metas m enumeration literal
        → IsTyped context vars (record { ty = types.Enum m enumeration; node = nodes.EnumLiteral m enumeration literal }) (without_model (types.Enum m enumeration))
    variable : (vars : Variables) (number : ℕ) (v : Typing) → slice_get vars number ≡ Some v
        → IsTyped context vars (record { ty = v.ty; node = nodes.Variable number }) v
    let_in : (vars : Variables) (ty : Ty) (value body : Typed) (v b : Typing)
        → IsWrittenType context.metas ty → IsTyped context vars value v → ConformsTo context.metas v.ty ty
        → IsTyped context (with_variable vars (record { ty = ty; model = v.model })) body b
        → IsTyped context vars (record { ty = b.ty; node = nodes.Let (length vars) value body }) b
    chain : (vars : Variables) (first : Typed) (rest : List TypedInfix) (a : Typing) (t : Ty)
        → IsTyped context vars first a → IsChained context vars a.ty rest t
        → IsTyped context vars (record { ty = t; node = nodes.Chain first rest }) (objects_of t a.model)
    negation : (vars : Variables) (operand : Typed) (a : Typing) → IsTyped context vars operand a → a.ty ≡ types.Bool
        → IsTyped context vars (record { ty = types.Bool; node = nodes.Not operand }) (without_model types.Bool)
    negated : (vars : Variables) (operand : Typed) (a : Typing) → IsTyped context vars operand a → a.ty ≡ types.Int
        → IsTyped context vars (record { ty = types.Int; node = nodes.Negated operand }) (without_model types.Int)
    called : (vars : Variables) (part : Typed) (steps : List TypedPostfix) (a b : Typing)
        → IsTyped context vars part a → AreCalled context vars a steps b
        → IsTyped context vars (record { ty = b.ty; node = nodes.Calls part steps }) b
    branches : (vars : Variables) (condition one other : Typed) (c a b : Typing) (t : Ty) (model : Option ℕ)
        → IsTyped context vars condition c → c.ty ≡ types.Bool → IsTyped context vars one a → IsTyped context vars other b
        → Branches context.metas a.ty b.ty t → IsOneModel (a.model ∷ b.model ∷ []) model
        → IsTyped context vars (record { ty = t; node = nodes.If condition one other }) (record { ty = t; model = model })
    literal : (vars : Variables) (kind : Kind) (elements : List Typed) (parts : List Typing) (t : Ty) (model : Option ℕ)
        → AreTyped context vars elements parts → Elements context.metas (types_of parts) t → IsOneModel (models_of parts) model
        → IsTyped context vars (record { ty = types.Coll kind t; node = nodes.Coll kind elements }) (record { ty = types.Coll kind t; model = model })
    extent : (vars : Variables) (m model : ℕ) (class : ClassId) → IsOnlyModelOf context model m class
        → IsTyped context vars (record { ty = types.Coll kinds.Set (types.Class m class); node = nodes.Extent model class })
        (record { ty = types.Coll kinds.Set (types.Class m class); model = Some model })
    query : (vars : Variables) (number : ℕ) (args : List Typed) (parts : List Typing) (q : QueryType)
        → slice_get context.queries number ≡ Some q → AreTyped context vars args parts → AllConform context.metas (types_of parts) q.params
        → IsTyped context vars (record { ty = q.result; node = nodes.Query number args }) (without_model q.result)

  -- expressions in their order
  pub data AreTyped (context : Context) : Variables → List Typed → List Typing → Type 0 where
    none : (vars : Variables) → AreTyped context vars [] []
    one_more : (vars : Variables) (e : Typed) (es : List Typed) (p : Typing) (ps : List Typing)
        → IsTyped context vars e p → AreTyped context vars es ps → AreTyped context vars (e ∷ es) (p ∷ ps)

  -- the operators behind a part of the first type, from left to right, give the second
  pub data IsChained (context : Context) : Variables → Ty → List TypedInfix → Ty → Type 0 where
    no_more : (vars : Variables) (t : Ty) → IsChained context vars t [] t
    operator : (vars : Variables) (a : Ty) (o : Operator) (right : Typed) (b : Typing) (t : Ty) (rest : List TypedInfix) (last : Ty)
        → IsTyped context vars right b → Operated context.metas o a b.ty t → IsChained context vars t rest last
        → IsChained context vars a (record { operator = o; right = right; ty = t } ∷ rest) last

  -- the calls behind a part of the first type, from left to right, give the second
  pub data AreCalled (context : Context) : Variables → Typing → List TypedPostfix → Typing → Type 0 where
    all_called : (vars : Variables) (a : Typing) → AreCalled context vars a [] a
    call : (vars : Variables) (a : Typing) (c : Call) (b : Typing) (rest : List TypedPostfix) (last : Typing)
        → IsCalled context vars a c b → AreCalled context vars b rest last
        → AreCalled context vars a (record { call = c; ty = b.ty } ∷ rest) last

  -- one call
  pub data IsCalled (context : Context) : Variables → Typing → Call → Typing → Type 0 where
    property : (vars : Variables) (a : Typing) (prop : PropId) (gives : Values) (t : Ty)
        → HasProperty context.metas a.ty prop gives t
        → IsCalled context vars a (calls.Property prop gives) (objects_of (navigated gives t) a.model)
    collect_property : (vars : Variables) (a : Typing) (kind : Kind) (of : Ty) (prop : PropId) (gives : Values) (t : Ty)
        → a.ty ≡ types.Coll kind of → HasProperty context.metas of prop gives t
        → IsCalled context vars a (calls.CollectProperty prop gives) (objects_of (types.Coll (collected_kind kind) t) a.model)
    operation : (vars : Variables) (a : Typing) (o : Operation) (args : List Typed) (parts : List Typing) (t : Ty)
        → AreTyped context vars args parts → OperationGives o a.ty (types_of parts) t
        → IsCalled context vars a (calls.Operation o args) (objects_of t a.model)
    class_operation : (vars : Variables) (a : Typing) (o : ClassOperation) (class : ClassId) (t : Ty)
        → ClassOperationGives context.metas o class a.ty t
        → IsCalled context vars a (calls.Class o class) (objects_of t a.model)
    collection : (vars : Variables) (a : Typing) (o : CollectionOperation) (kind : Kind) (of : Ty) (args : List Typed) (parts : List Typing) (t : Ty) (joined : Option ℕ)
        → a.ty ≡ types.Coll kind of → AreTyped context vars args parts → CollectionGives context.metas o kind of (types_of parts) t
        → IsOneModel (a.model ∷ models_of parts) joined
        → IsCalled context vars a (calls.Collection o args) (objects_of t (given_model o a.model joined))
    iterator : (vars : Variables) (a : Typing) (i : IteratorKind) (kind : Kind) (of ty : Ty) (body : Typed) (b : Typing) (t : Ty)
        → a.ty ≡ types.Coll kind of → IsElementVariable context.metas of ty
        → IsTyped context (with_variable vars (record { ty = ty; model = a.model })) body b → IteratorGives i kind of b.ty t
        → IsCalled context vars a (calls.Iterator i (length vars) body) (objects_of t (iterated_model i a.model b.model))
