-- What operators, properties, operations and iterators ask of the types of their parts, and the type of what they give, a clause
-- each (OCL 2.4, sections 7.4 to 7.6, 11.3 to 11.9).
use Rattle.std.specs.Prelude.{◌≡◌, ◌⊎◌, ℕ, Bool, false, nat_le, List, [], ◌∷◌, Option, None, Some, Contains, if◌then◌else◌}
use Rattle.mof_metamodel.specs.declared.desc.MetaDesc.{MetaDesc}
use Rattle.mof_metamodel.specs.declared.desc.ClassId.{ClassId}
use Rattle.mof_metamodel.specs.declared.desc.PropId.{PropId}
use Rattle.mof_metamodel.specs.declared.desc.PropDesc.{PropDesc}
use Rattle.mof_metamodel.specs.declared.desc.PropType.{PropType}
use Rattle.mof_metamodel.specs.declared.desc.PropType.TheVariants as props
use Rattle.mof_metamodel.specs.Metamodels.{props_of, prop_at, type_of}
use Rattle.qv_syntax.specs.declared.ty.Ty.{Ty}
use Rattle.qv_syntax.specs.declared.ty.Ty.TheVariants as types
use Rattle.qv_syntax.specs.declared.type_tree.Kind.{Kind}
use Rattle.qv_syntax.specs.declared.type_tree.Kind.TheVariants as kinds
use Rattle.qv_syntax.specs.declared.operator.Operator.{Operator}
use Rattle.qv_syntax.specs.declared.operator.Operator.TheVariants as operators
use Rattle.qv_syntax.specs.declared.operation.Operation.{Operation}
use Rattle.qv_syntax.specs.declared.operation.Operation.TheVariants as operations
use Rattle.qv_syntax.specs.declared.operation.ClassOperation.{ClassOperation}
use Rattle.qv_syntax.specs.declared.operation.ClassOperation.TheVariants as tests
use Rattle.qv_syntax.specs.declared.operation.CollectionOperation.{CollectionOperation}
use Rattle.qv_syntax.specs.declared.operation.CollectionOperation.TheVariants as of_collections
use Rattle.qv_syntax.specs.declared.operation.IteratorKind.{IteratorKind}
use Rattle.qv_syntax.specs.declared.operation.IteratorKind.TheVariants as iterators
use Rattle.qv_syntax.specs.declared.typed.Values.{Values}
use Rattle.qv_syntax.specs.declared.typed.Values.TheVariants as values
use Rattle.qv_syntax.specs.Types.{IsClassIn, IsNoCollection, AreRelated, IsTopOf}

-- ---- operators (sections 7.4.7 and 11.5)

-- both parts have the one type, and what comes has the other
abbrev pub Both : Ty → Ty → Ty → Ty → Ty → Type 0
Both wanted gives a b t = (a ≡ wanted) × (b ≡ wanted) × (t ≡ gives)

-- collections of one kind whose elements could stand in one collection
pub record AreLikeCollections (metas : List MetaDesc) (a b : Ty) : Type 0 where
  pub kind : Kind
  pub one : Ty
  pub other : Ty
  pub first : a ≡ types.Coll kind one
  pub second : b ≡ types.Coll kind other
  pub related : AreRelated metas one other

-- `=` and `<>` compare what has one type, objects of which one's class conforms to the other's, collections of these, and anything
-- with `null` or `invalid`
abbrev pub AreComparable : List MetaDesc → Ty → Ty → Type 0
AreComparable metas a b = (a ≡ types.Null) ⊎ ((b ≡ types.Null) ⊎ (AreRelated metas a b ⊎ AreLikeCollections metas a b))

abbrev pub Operated : List MetaDesc → Operator → Ty → Ty → Ty → Type 0
Operated metas operators.Implies a b t = Both types.Bool types.Bool a b t
Operated metas operators.Xor a b t = Both types.Bool types.Bool a b t
Operated metas operators.Or a b t = Both types.Bool types.Bool a b t
Operated metas operators.And a b t = Both types.Bool types.Bool a b t
Operated metas operators.Equal a b t = AreComparable metas a b × (t ≡ types.Bool)
Operated metas operators.NotEqual a b t = AreComparable metas a b × (t ≡ types.Bool)
Operated metas operators.Less a b t = Both types.Int types.Bool a b t
Operated metas operators.Greater a b t = Both types.Int types.Bool a b t
Operated metas operators.AtMost a b t = Both types.Int types.Bool a b t
Operated metas operators.AtLeast a b t = Both types.Int types.Bool a b t
Operated metas operators.Plus a b t = Both types.Int types.Int a b t ⊎ Both types.Str types.Str a b t
Operated metas operators.Minus a b t = Both types.Int types.Int a b t
Operated metas operators.Times a b t = Both types.Int types.Int a b t

-- ---- if and collection literals (sections 7.5.1 and 7.5.5)

-- the type of two branches: that to which both conform; one that is `null` or `invalid` takes the other's type
abbrev pub Branches : List MetaDesc → Ty → Ty → Ty → Type 0
Branches metas a b t = ((a ≡ types.Null) × (t ≡ b)) ⊎ (((b ≡ types.Null) × (t ≡ a)) ⊎ IsTopOf metas (a ∷ b ∷ []) t)

-- the type of the elements of a collection literal: one of theirs to which all conform, and no collection
abbrev pub Elements : List MetaDesc → List Ty → Ty → Type 0
Elements metas [] t = t ≡ types.Null
Elements metas (a ∷ more) t = IsTopOf metas (a ∷ more) t × IsNoCollection t

-- ---- properties (section 7.5.3)

-- the type of a value of a property, in the metamodel of number m
abbrev pub value_type : ℕ → PropType → Ty
value_type m props.Str = types.Str
value_type m props.Int = types.Int
value_type m props.Bool = types.Bool
value_type m (props.Enum e) = types.Enum m e
value_type m (props.Class c) = types.Class m c

-- a bound of at most one value
abbrev pub is_single : Option ℕ → Bool
is_single None = false
is_single (Some n) = nat_le n 1

-- a single property gives one value or null, one of many values a Set, or an OrderedSet where it is ordered
abbrev pub values_of : PropDesc → Values
values_of prop = if is_single prop.upper then values.Single else if prop.ordered then values.OrderedSet else values.Set

-- the type of what navigation gives, of the type of one value
abbrev pub navigated : Values → Ty → Ty
navigated values.Single ty = ty
navigated values.Set ty = types.Coll kinds.Set ty
navigated values.OrderedSet ty = types.Coll kinds.OrderedSet ty

-- objects of the type have the property, whose values are of type t
pub record HasProperty (metas : List MetaDesc) (object : Ty) (prop : PropId) (gives : Values) (t : Ty) : Type 0 where
  pub m : ℕ
  pub class : ClassId
  pub is : object ≡ types.Class m class
  pub has : IsClassIn metas m class
  pub own : Contains (props_of has.meta class.0) prop.0
  pub of : PropType
  pub typed : type_of has.meta prop.0 ≡ Some of
  pub value : t ≡ value_type m of
  pub many : gives ≡ values_of (prop_at has.meta prop.0)

-- ---- operations on single values (sections 11.3.1 and 11.5)

-- behind a value of the one type, with arguments of these types, it gives the other
abbrev pub Takes : Ty → List Ty → Ty → Ty → List Ty → Ty → Type 0
Takes receiver parameters gives x args t = (x ≡ receiver) × (args ≡ parameters) × (t ≡ gives)

abbrev pub OperationGives : Operation → Ty → List Ty → Ty → Type 0
OperationGives operations.Absolute x args t = Takes types.Int [] types.Int x args t
OperationGives operations.Divide x args t = Takes types.Int (types.Int ∷ []) types.Int x args t
OperationGives operations.Modulo x args t = Takes types.Int (types.Int ∷ []) types.Int x args t
OperationGives operations.Maximum x args t = Takes types.Int (types.Int ∷ []) types.Int x args t
OperationGives operations.Minimum x args t = Takes types.Int (types.Int ∷ []) types.Int x args t
OperationGives operations.ToString x args t = Takes types.Int [] types.Str x args t ⊎ Takes types.Bool [] types.Str x args t
OperationGives operations.Length x args t = Takes types.Str [] types.Int x args t
OperationGives operations.Concatenate x args t = Takes types.Str (types.Str ∷ []) types.Str x args t
OperationGives operations.ToInteger x args t = Takes types.Str [] types.Int x args t
OperationGives operations.Substring x args t = Takes types.Str (types.Int ∷ types.Int ∷ []) types.Str x args t
OperationGives operations.IsUndefined x args t = (args ≡ []) × (t ≡ types.Bool)
OperationGives operations.IsInvalid x args t = (args ≡ []) × (t ≡ types.Bool)
OperationGives operations.AsSingletonSet x args t = IsNoCollection x × (args ≡ []) × (t ≡ types.Coll kinds.Set x)

-- the type of a test or a cast with a class of metamodel m
abbrev pub tested : ClassOperation → ℕ → ClassId → Ty
tested tests.IsTypeOf m class = types.Bool
tested tests.IsKindOf m class = types.Bool
tested tests.AsType m class = types.Class m class

-- behind an object, with a class of its metamodel
pub record ClassOperationGives (metas : List MetaDesc) (operation : ClassOperation) (class : ClassId) (x t : Ty) : Type 0 where
  pub m : ℕ
  pub own : ClassId
  pub is : x ≡ types.Class m own
  pub has : IsClassIn metas m class
  pub gives : t ≡ tested operation m class

-- ---- operations on collections of a kind, with elements of a type (section 11.7)

-- a Sequence or an OrderedSet
abbrev pub IsOrdered : Kind → Type 0
IsOrdered kinds.Set = ⊥
IsOrdered kinds.Bag = ⊥
IsOrdered kinds.Sequence = Unit {0}
IsOrdered kinds.OrderedSet = Unit {0}

-- no argument
abbrev pub Plain : Ty → List Ty → Ty → Type 0
Plain gives args t = (args ≡ []) × (t ≡ gives)

-- an element that could stand in the collection
pub record WithElement (metas : List MetaDesc) (gives of : Ty) (args : List Ty) (t : Ty) : Type 0 where
  pub element : Ty
  pub is : args ≡ element ∷ []
  pub related : AreRelated metas of element
  pub result : t ≡ gives

-- a collection whose elements could stand in the collection
pub record WithCollection (metas : List MetaDesc) (gives of : Ty) (args : List Ty) (t : Ty) : Type 0 where
  pub kind : Kind
  pub element : Ty
  pub is : args ≡ types.Coll kind element ∷ []
  pub related : AreRelated metas of element
  pub result : t ≡ gives

-- an element more: the collection has the type to which both conform
pub record JoinsElement (metas : List MetaDesc) (kind : Kind) (of : Ty) (args : List Ty) (t : Ty) : Type 0 where
  pub element : Ty
  pub is : args ≡ element ∷ []
  pub top : Ty
  pub joined : IsTopOf metas (of ∷ element ∷ []) top
  pub result : t ≡ types.Coll kind top

-- a collection of the same kind
pub record JoinsCollection (metas : List MetaDesc) (kind : Kind) (of : Ty) (args : List Ty) (t : Ty) : Type 0 where
  pub element : Ty
  pub is : args ≡ types.Coll kind element ∷ []
  pub top : Ty
  pub joined : IsTopOf metas (of ∷ element ∷ []) top
  pub result : t ≡ types.Coll kind top

abbrev pub CollectionGives : List MetaDesc → CollectionOperation → Kind → Ty → List Ty → Ty → Type 0
CollectionGives metas of_collections.Size kind of args t = Plain types.Int args t
CollectionGives metas of_collections.IsEmpty kind of args t = Plain types.Bool args t
CollectionGives metas of_collections.NotEmpty kind of args t = Plain types.Bool args t
CollectionGives metas of_collections.Includes kind of args t = WithElement metas types.Bool of args t
CollectionGives metas of_collections.Excludes kind of args t = WithElement metas types.Bool of args t
CollectionGives metas of_collections.IncludesAll kind of args t = WithCollection metas types.Bool of args t
CollectionGives metas of_collections.ExcludesAll kind of args t = WithCollection metas types.Bool of args t
CollectionGives metas of_collections.Count kind of args t = WithElement metas types.Int of args t
CollectionGives metas of_collections.Sum kind of args t = (of ≡ types.Int) × Plain types.Int args t
CollectionGives metas of_collections.Including kind of args t = JoinsElement metas kind of args t
CollectionGives metas of_collections.Excluding kind of args t = WithElement metas (types.Coll kind of) of args t
CollectionGives metas of_collections.Union kind of args t = JoinsCollection metas kind of args t
CollectionGives metas of_collections.Intersection kind of args t = (kind ≡ kinds.Set) × JoinsCollection metas kind of args t
CollectionGives metas of_collections.AsSet kind of args t = Plain (types.Coll kinds.Set of) args t
CollectionGives metas of_collections.AsBag kind of args t = Plain (types.Coll kinds.Bag of) args t
CollectionGives metas of_collections.AsSequence kind of args t = Plain (types.Coll kinds.Sequence of) args t
CollectionGives metas of_collections.AsOrderedSet kind of args t = Plain (types.Coll kinds.OrderedSet of) args t
CollectionGives metas of_collections.First kind of args t = IsOrdered kind × Plain of args t
CollectionGives metas of_collections.Last kind of args t = IsOrdered kind × Plain of args t
CollectionGives metas of_collections.At kind of args t = IsOrdered kind × (args ≡ types.Int ∷ []) × (t ≡ of)
CollectionGives metas of_collections.Append kind of args t = IsOrdered kind × JoinsElement metas kind of args t
CollectionGives metas of_collections.Prepend kind of args t = IsOrdered kind × JoinsElement metas kind of args t

-- ---- iterators (section 11.9)

-- the kind of what `collect` gives
abbrev pub collected_kind : Kind → Kind
collected_kind kinds.Set = kinds.Bag
collected_kind kinds.Bag = kinds.Bag
collected_kind kinds.Sequence = kinds.Sequence
collected_kind kinds.OrderedSet = kinds.Sequence

-- what a body of this type adds to what is collected: a collection its elements
abbrev pub Flattened : Ty → Ty → Type 0
Flattened body element = ((kind : Kind) × (body ≡ types.Coll kind element)) ⊎ (IsNoCollection body × (element ≡ body))

-- the body is a condition
abbrev pub OnCondition : Ty → Ty → Ty → Type 0
OnCondition gives body t = (body ≡ types.Bool) × (t ≡ gives)

abbrev pub Collects : Kind → Ty → Ty → Type 0
Collects kind body t = (element : Ty) × Flattened body element × (t ≡ types.Coll (collected_kind kind) element)

abbrev pub IteratorGives : IteratorKind → Kind → Ty → Ty → Ty → Type 0
IteratorGives iterators.Select kind of body t = OnCondition (types.Coll kind of) body t
IteratorGives iterators.Reject kind of body t = OnCondition (types.Coll kind of) body t
IteratorGives iterators.Collect kind of body t = Collects kind body t
IteratorGives iterators.Exists kind of body t = OnCondition types.Bool body t
IteratorGives iterators.ForAll kind of body t = OnCondition types.Bool body t
IteratorGives iterators.One kind of body t = OnCondition types.Bool body t
IteratorGives iterators.IsUnique kind of body t = t ≡ types.Bool
