-- The rules of typing (OCL 2.4, chapters 7, 9 and 11): what each form asks of its parts, which have types, and what it is then. Each
-- demand stands with the fault of where it isn't met, and demands have no order.
use Rattle.std.specs.Prelude.{◌≡◌, ◌≢◌, ◌<◌, ◌⊎◌, ℕ, Bool, true, false, map, Contains, List, [], ◌∷◌, Option, None, Some, slice_get, length, codes, encode_utf8_all}
use Rattle.mof_metamodel.specs.declared.desc.MetaDesc.{MetaDesc}
use Rattle.mof_metamodel.specs.declared.desc.ClassId.{ClassId}
use Rattle.mof_metamodel.specs.declared.desc.PropId.{PropId}
use Rattle.mof_metamodel.specs.Metamodels.{prop_at}
use Rattle.qv_syntax.specs.declared.name.Path.{Path}
use Rattle.qv_syntax.specs.declared.operator.Operator.{Operator}
use Rattle.qv_syntax.specs.declared.operator.Operator.TheVariants as operators
use Rattle.qv_syntax.specs.declared.operation.CollectionOperation.{CollectionOperation}
use Rattle.qv_syntax.specs.declared.operation.CollectionOperation.TheVariants as collections
use Rattle.qv_syntax.specs.declared.ty.Ty.{Ty}
use Rattle.qv_syntax.specs.declared.ty.Ty.TheVariants as types
use Rattle.qv_syntax.specs.declared.type_tree.Kind.{Kind}
use Rattle.qv_syntax.specs.declared.type_tree.Kind.TheVariants as kinds
use Rattle.qv_syntax.specs.declared.type_tree.TypeTree.{TypeTree}
use Rattle.qv_syntax.specs.declared.typed.Call.TheVariants as calls
use Rattle.qv_syntax.specs.declared.typed.Node.TheVariants as nodes
use Rattle.qv_syntax.specs.declared.typed.Values.{Values}
use Rattle.qv_syntax.specs.Types.{ConformsTo, IsTopOf, IsWrittenType, IsOneModel}
use Rattle.qv_syntax.specs.TypeRules.{AreComparable, Operated, Branches, Elements, HasProperty, IsOrdered}
use Rattle.ocl_types.specs.declared.collection_operations.Argument.{Argument}
use Rattle.ocl_types.specs.declared.collection_operations.Argument.TheVariants as arguments
use Rattle.ocl_types.specs.declared.collection_operations.Kinds.{Kinds}
use Rattle.ocl_types.specs.declared.collection_operations.Kinds.TheVariants as behind
use Rattle.ocl_types.specs.declared.operations.Receivers.{Receivers}
use Rattle.ocl_types.specs.declared.operations.Receivers.TheVariants as receivers
use Rattle.ocl_environments.specs.declared.fault.TypeFault.{TypeFault}
use Rattle.ocl_environments.specs.declared.fault.TypeFault.TheVariants.{UnknownName, DuplicateName, WrongCount, ModelMix}
use Rattle.ocl_environments.specs.declared.part.TypedPart.{TypedPart}
use Rattle.ocl_environments.specs.declared.part.CallsSoFar.{CallsSoFar}
use Rattle.ocl_environments.specs.declared.part.Chained.{Chained}
use Rattle.ocl_environments.specs.declared.variable.Variable.{Variable}
use Rattle.ocl_environments.specs.Environments.{Environment, NamesWith, is_bound, only_model}
use Rattle.ocl_environments.specs.Naming.{names_of, joined_names, path_text, kind_text}
use Rattle.ocl_environments.specs.Classifiers.{named_literal, named_class}
use Rattle.ocl_environments.specs.Navigation.{navigated}
use Rattle.ocl_types.specs.Operations.{operation_row, class_row, collection_row, iterator_row, operation_named, class_operation_named, collection_operation_named, iterator_named}
use Rattle.ocl_types.specs.Signatures.{parameter_count, parameter_type, result_type, argument_count, collected_kind}
use Rattle.ocl_environments.specs.Outcomes.{wrong_type}
use Rattle.ocl_environments.specs.Agreement.{collection_parts, model_for}
use Rattle.ocl_environments.specs.Parts.{tree_of, trees_of, types_of, plain_part, and_called}
use Rattle.ocl_environments.specs.Written.{written}
use Rattle.ocl_types.specs.TypingOperators.{and_linked}
use Rattle.ocl_types.specs.TypingSteps.{called_with, tested, extent_part, query_part}
use Rattle.ocl_types.specs.TypingCollections.{kind_of, element_of, operated_on, iterated}
use Rattle.ocl_types.specs.Judged.{Judged, gives, tells, says, asks, finds, taking, both}

-- this very type is asked for
abbrev pub being : {X : Type 0} → List MetaDesc → Ty → Ty → Judged X → Judged X
being metas wanted found rest = asks (found ≡ wanted) (wrong_type metas wanted found) rest

-- a type that conforms to another is asked for
abbrev pub conforming : {X : Type 0} → List MetaDesc → Ty → Ty → Judged X → Judged X
conforming metas wanted found rest = asks (ConformsTo metas found wanted) (wrong_type metas wanted found) rest

-- the type to which both conform, one of the two
abbrev pub top_judged : List MetaDesc → Ty → Ty → Judged Ty
top_judged metas a b = says (IsTopOf metas (a ∷ b ∷ [])) (λ f. f ≡ wrong_type metas a b)

-- the models of parts, where they have one
abbrev pub part_models : List TypedPart → List (Option ℕ)
part_models parts = map (λ p. p.model) parts

-- objects of one model are asked for
abbrev pub one_model_judged : List ℕ → List (Option ℕ) → Judged (Option ℕ)
one_model_judged name models = says (IsOneModel models) (λ f. f ≡ ModelMix name)

-- ---- names (section 9.4)

-- the first of this name, by its place, and what it stands for
pub record IsFirstNamed (X : Type 0) (entries : NamesWith X) (name : List ℕ) (found : ℕ × X) : Type 0 where
  pub there : slice_get entries found.0 ≡ Some (name, found.1)
  pub first : (k : ℕ) (x : X) → k < found.0 → slice_get entries k ≡ Some (name, x) → ⊥

abbrev pub named_judged : {X : Type 0} → NamesWith X → List ℕ → Judged (ℕ × X)
named_judged {X = X} entries name = says (IsFirstNamed X entries name) (λ f. f ≡ UnknownName name)

-- a variable that is in reach
abbrev pub variable_judged : Environment → List ℕ → Judged TypedPart
variable_judged env name = taking (named_judged env.variables name) (λ v. gives (record { ty = v.1.ty; model = v.1.model; node = nodes.Variable v.0 }))

-- a literal of an enumeration
abbrev pub literal_judged : Environment → List (List ℕ) → Judged TypedPart
literal_judged env names = finds (named_literal env names) (UnknownName (joined_names names)) (λ l. gives (plain_part (types.Enum l.0 l.1) (nodes.EnumLiteral l.0 l.1 l.2)))

abbrev pub names_judged : Environment → List (List ℕ) → Judged TypedPart
names_judged env (name ∷ []) = variable_judged env name
names_judged env names = literal_judged env names

-- ---- operators (sections 7.4.7 and 11.5)

-- both sides have the one type, and what comes has the other
abbrev pub sides : List MetaDesc → Ty → Ty → Ty → Ty → Judged Ty
sides metas wanted left right to = being metas wanted left (being metas wanted right (gives to))

-- one type is asked for, and this is another
abbrev pub IsOther : List MetaDesc → Ty → Ty → TypeFault → Type 0
IsOther metas wanted found f = (found ≢ wanted) × (f ≡ wrong_type metas wanted found)

-- beside a String something else, or, where the left side is none, something that is no Integer
abbrev pub IsMisadded : List MetaDesc → Ty → Ty → TypeFault → Type 0
IsMisadded metas a b f = ((a ≡ types.Str) × IsOther metas types.Str b f) ⊎ ((a ≢ types.Str) × (IsOther metas types.Int a f ⊎ IsOther metas types.Int b f))

-- two Integers or two Strings
abbrev pub added_judged : List MetaDesc → Ty → Ty → Judged Ty
added_judged metas a b = says (Operated metas operators.Plus a b) (IsMisadded metas a b)

-- two values that may be compared
abbrev pub compared_judged : List MetaDesc → Ty → Ty → Judged Ty
compared_judged metas a b = asks (AreComparable metas a b) (wrong_type metas a b) (gives types.Bool)

-- the type of what an operator gives
abbrev pub operator_judged : List MetaDesc → Operator → Ty → Ty → Judged Ty
operator_judged metas operators.Implies a b = sides metas types.Bool a b types.Bool
operator_judged metas operators.Xor a b = sides metas types.Bool a b types.Bool
operator_judged metas operators.Or a b = sides metas types.Bool a b types.Bool
operator_judged metas operators.And a b = sides metas types.Bool a b types.Bool
operator_judged metas operators.Equal a b = compared_judged metas a b
operator_judged metas operators.NotEqual a b = compared_judged metas a b
operator_judged metas operators.Less a b = sides metas types.Int a b types.Bool
operator_judged metas operators.Greater a b = sides metas types.Int a b types.Bool
operator_judged metas operators.AtMost a b = sides metas types.Int a b types.Bool
operator_judged metas operators.AtLeast a b = sides metas types.Int a b types.Bool
operator_judged metas operators.Plus a b = added_judged metas a b
operator_judged metas operators.Minus a b = sides metas types.Int a b types.Int
operator_judged metas operators.Times a b = sides metas types.Int a b types.Int

-- what stands before, an operator, and the part behind it
abbrev pub linked_judged : List MetaDesc → Chained → Operator → TypedPart → Judged Chained
linked_judged metas c operator right = taking (operator_judged metas operator c.ty right.ty) (λ ty. gives (and_linked c operator right ty))

abbrev pub not_judged : List MetaDesc → TypedPart → Judged TypedPart
not_judged metas p = being metas types.Bool p.ty (gives (plain_part types.Bool (nodes.Not (tree_of p))))

abbrev pub negated_judged : List MetaDesc → TypedPart → Judged TypedPart
negated_judged metas p = being metas types.Int p.ty (gives (plain_part types.Int (nodes.Negated (tree_of p))))

-- ---- if (section 7.5.5): a condition, branches that go together, and objects of one model

abbrev pub branches_judged : List MetaDesc → Ty → Ty → Judged Ty
branches_judged metas a b = says (Branches metas a b) (λ f. f ≡ wrong_type metas a b)

abbrev pub if_judged : List MetaDesc → TypedPart → TypedPart → TypedPart → Judged TypedPart
if_judged metas c a b =
    being metas types.Bool c.ty (
    taking (both (branches_judged metas a.ty b.ty) (one_model_judged (codes "if") (a.model ∷ b.model ∷ []))) (λ t.
    gives (record { ty = t.0; model = t.1; node = nodes.If (tree_of c) (tree_of a) (tree_of b) })))

-- ---- collection literals (section 7.5.5): elements that go together, and objects of one model

-- one of the types doesn't conform to another: these two are named
abbrev pub DoNotAgree : List MetaDesc → List Ty → TypeFault → Type 0
DoNotAgree metas tys f = (top : Ty) × (ty : Ty) × Contains tys top × Contains tys ty × (¬ (ConformsTo metas ty top)) × (f ≡ wrong_type metas top ty)

-- the elements are collections: no collection holds collections
abbrev pub IsNested : List MetaDesc → Ty → TypeFault → Type 0
IsNested metas ty f = (kind : Kind) × (inner : Ty) × (ty ≡ types.Coll kind inner) × (f ≡ wrong_type metas inner ty)

abbrev pub elements_judged : List MetaDesc → List Ty → Judged Ty
elements_judged metas tys = says (Elements metas tys) (λ f. DoNotAgree metas tys f ⊎ ((top : Ty) × IsTopOf metas tys top × IsNested metas top f))

abbrev pub collection_judged : List MetaDesc → Kind → List TypedPart → Judged TypedPart
collection_judged metas kind elements =
    taking (both (elements_judged metas (types_of elements)) (one_model_judged (kind_text kind) (part_models elements))) (λ t.
    gives (record { ty = types.Coll kind t.0; model = t.1; node = nodes.Coll kind (trees_of elements) }))

-- ---- types that are declared: of single values, or collections of these (section 7.4)

abbrev pub flat_judged : List MetaDesc → Ty → Judged Ty
flat_judged metas ty = says (λ t. (t ≡ ty) × IsWrittenType metas t) (λ f. (kind : Kind) × (inner : Ty) × (ty ≡ types.Coll kind inner) × IsNested metas inner f)

abbrev pub declared_judged : Environment → TypeTree → Judged Ty
declared_judged env tree = taking (tells (written env tree)) (flat_judged env.metas)

-- ---- let (section 7.4.3)

-- a name that is free: variables hide nothing
abbrev pub free_judged : {X : Type 0} → Environment → List ℕ → Judged X → Judged X
free_judged env name rest = asks (is_bound env name ≡ false) (DuplicateName name) rest

-- the type that is written for a variable of a name that is free
abbrev pub let_judged : Environment → List ℕ → TypeTree → Judged Ty
let_judged env name tree = free_judged env name (declared_judged env tree)

-- the variable, of its type and a value
abbrev pub bound_judged : List MetaDesc → Ty → TypedPart → Judged Variable
bound_judged metas ty value = conforming metas ty value.ty (gives (record { ty = ty; model = value.model }))

-- ---- queries, with arguments that conform to the types of the parameters

abbrev pub arguments_judged : List MetaDesc → List Ty → List TypedPart → Judged TypedPart → Judged TypedPart
arguments_judged metas [] args rest = rest
arguments_judged metas (ty ∷ more) [] rest = rest
arguments_judged metas (ty ∷ more) (p ∷ ps) rest = conforming metas ty p.ty (arguments_judged metas more ps rest)

abbrev pub query_judged : Environment → List ℕ → List TypedPart → Judged TypedPart
query_judged env name args =
    taking (named_judged env.queries name) (λ q.
    asks (length args ≡ length q.1.params) (WrongCount name) (
    arguments_judged env.metas q.1.params args (gives (query_part q.0 q.1 args))))

-- ---- extents (section 11.3.1): of the one model that has the metamodel of the class

abbrev pub extent_judged : Environment → Path → Judged TypedPart
extent_judged env path =
    finds (named_class env (names_of path)) (UnknownName (path_text path)) (λ class.
    finds (only_model env.models class.0) (ModelMix (path_text path)) (λ model.
    gives (extent_part class model)))

-- ---- properties (section 7.5.3), of an object or of each object of a collection

-- objects of the type have a property of this name, with these values of this type
pub record HasPropertyNamed (metas : List MetaDesc) (object : Ty) (name : List ℕ) (found : PropId × Values × Ty) : Type 0 where
  pub property : HasProperty metas object found.0 found.1 found.2
  pub named : (prop_at property.has.meta found.0.0).name ≡ name

abbrev pub found_property : List MetaDesc → Ty → List ℕ → Judged (PropId × Values × Ty)
found_property metas object name = says (HasPropertyNamed metas object name) (λ f. f ≡ UnknownName name)

abbrev pub property_judged_by : List MetaDesc → List ℕ → CallsSoFar → Option (Kind × Ty) → Judged CallsSoFar
property_judged_by metas name c None = taking (found_property metas c.ty name) (λ p.
    gives (and_called c (calls.Property p.0 p.1) (navigated p.1 p.2) (model_for p.2 c.model)))
property_judged_by metas name c (Some parts) = taking (found_property metas parts.1 name) (λ p.
    gives (and_called c (calls.CollectProperty p.0 p.1) (types.Coll (collected_kind parts.0) p.2) (model_for p.2 c.model)))

abbrev pub property_judged : List MetaDesc → List ℕ → CallsSoFar → Judged CallsSoFar
property_judged metas name c = property_judged_by metas name c (collection_parts c.ty)

-- ---- operations on single values (sections 11.3 and 11.5)

abbrev pub exact_judged : List MetaDesc → Ty → List TypedPart → Judged CallsSoFar → Judged CallsSoFar
exact_judged metas wanted [] rest = rest
exact_judged metas wanted (p ∷ ps) rest = being metas wanted p.ty (exact_judged metas wanted ps rest)

-- values of the type are those behind which the operation stands
abbrev pub IsReceiver : Receivers → Ty → Type 0
IsReceiver receivers.Int ty = ty ≡ types.Int
IsReceiver receivers.IntOrBool ty = (ty ≡ types.Int) ⊎ (ty ≡ types.Bool)
IsReceiver receivers.Str ty = ty ≡ types.Str
IsReceiver receivers.Any ty = Unit {0}

abbrev pub operation_judged : List MetaDesc → List ℕ → CallsSoFar → List TypedPart → Judged CallsSoFar
operation_judged metas name c args =
    finds (operation_named (encode_utf8_all name)) (UnknownName name) (λ operation.
    asks (IsReceiver (operation_row operation).receivers c.ty) (UnknownName name) (
    asks (length args ≡ parameter_count (operation_row operation).parameters) (WrongCount name) (
    exact_judged metas (parameter_type (operation_row operation).parameters) args (
    gives (called_with c (calls.Operation operation (trees_of args)) (result_type (operation_row operation).result c.ty))))))

-- objects of the type are of the metamodel of number m
abbrev pub IsObjectOf : ℕ → Ty → Type 0
IsObjectOf m ty = (class : ClassId) × (ty ≡ types.Class m class)

-- a type test or a cast, with a class of the object's metamodel
abbrev pub class_operation_judged : Environment → List ℕ → Path → CallsSoFar → Judged CallsSoFar
class_operation_judged env name path c =
    finds (class_operation_named (encode_utf8_all name)) (UnknownName name) (λ operation.
    finds (named_class env (names_of path)) (UnknownName (path_text path)) (λ class.
    asks (IsObjectOf class.0 c.ty) (wrong_type env.metas (types.Class class.0 class.1) c.ty) (
    gives (called_with c (calls.Class operation class.1) (tested (class_row operation).result class)))))

-- ---- operations on collections (section 11.7)

-- collections of the kind are those behind which the operation stands
abbrev pub IsOfKind : Kinds → Kind → Type 0
IsOfKind behind.Any kind = Unit {0}
IsOfKind behind.Set kind = kind ≡ kinds.Set
IsOfKind behind.Ordered kind = IsOrdered kind

-- `sum` asks for Integers
abbrev pub summed_judged : List MetaDesc → CollectionOperation → Ty → Judged CallsSoFar → Judged CallsSoFar
summed_judged metas collections.Sum of rest = being metas types.Int of rest
summed_judged metas operation of rest = rest

-- the type to which the elements conform and what is given: an element, a collection, or one of the same kind; an index is an Integer
abbrev pub GivenConforms : List MetaDesc → Argument → Kind → Ty → List Ty → Ty → Type 0
GivenConforms metas arguments.Nothing kind of args u = (args ≡ []) × (u ≡ of)
GivenConforms metas arguments.Element kind of args u = (e : Ty) × (args ≡ e ∷ []) × IsTopOf metas (of ∷ e ∷ []) u
GivenConforms metas arguments.Collection kind of args u = (other : Kind) × (e : Ty) × (args ≡ types.Coll other e ∷ []) × IsTopOf metas (of ∷ e ∷ []) u
GivenConforms metas arguments.SameKind kind of args u = (e : Ty) × (args ≡ types.Coll kind e ∷ []) × IsTopOf metas (of ∷ e ∷ []) u
GivenConforms metas arguments.Index kind of args u = (args ≡ types.Int ∷ []) × (u ≡ of)

-- what is given in place of what is asked for, by its type, or that of its elements
abbrev pub IsMisgiven : List MetaDesc → Argument → Kind → Ty → Ty → TypeFault → Type 0
IsMisgiven metas arguments.Nothing kind of ty f = ⊥
IsMisgiven metas arguments.Element kind of ty f = f ≡ wrong_type metas of ty
IsMisgiven metas arguments.Collection kind of ty f = (f ≡ wrong_type metas (types.Coll kind of) ty) ⊎ ((other : Kind) × (e : Ty) × (ty ≡ types.Coll other e) × (f ≡ wrong_type metas of e))
IsMisgiven metas arguments.SameKind kind of ty f = (f ≡ wrong_type metas (types.Coll kind of) ty) ⊎ ((e : Ty) × (ty ≡ types.Coll kind e) × (f ≡ wrong_type metas of e))
IsMisgiven metas arguments.Index kind of ty f = f ≡ wrong_type metas types.Int ty

abbrev pub given_judged : List MetaDesc → Argument → Kind → Ty → List Ty → Judged Ty
given_judged metas argument kind of args = says (GivenConforms metas argument kind of args) (λ f. (ty : Ty) × (args ≡ ty ∷ []) × IsMisgiven metas argument kind of ty f)

abbrev pub collection_operation_judged : List MetaDesc → List ℕ → CallsSoFar → List TypedPart → Judged CallsSoFar
collection_operation_judged metas name c args =
    finds (collection_operation_named (encode_utf8_all name)) (UnknownName name) (λ operation.
    asks (IsOfKind (collection_row operation).kinds (kind_of c.ty)) (UnknownName name) (
    asks (length args ≡ argument_count (collection_row operation).argument) (WrongCount name) (
    summed_judged metas operation (element_of c.ty) (
    taking (both (given_judged metas (collection_row operation).argument (kind_of c.ty) (element_of c.ty) (types_of args)) (one_model_judged name (c.model ∷ part_models args))) (λ t.
    gives (operated_on c operation args (kind_of c.ty) (element_of c.ty) t.0 t.1))))))

-- ---- iterators (section 11.9)

-- the type of the variable: that of the elements, or a written one to which this conforms
abbrev pub variable_type_judged : Environment → Option TypeTree → Ty → Judged Ty
variable_type_judged env None of = gives of
variable_type_judged env (Some tree) of = taking (declared_judged env tree) (λ ty. conforming env.metas ty of (gives ty))

abbrev pub iterator_variable_judged : Environment → List ℕ → Option TypeTree → CallsSoFar → Judged Variable
iterator_variable_judged env name tree c = free_judged env name (taking (variable_type_judged env tree (element_of c.ty)) (λ ty. gives (record { ty = ty; model = c.model })))

-- a body that is a condition is a Boolean
abbrev pub condition_judged : List MetaDesc → Bool → Ty → Judged CallsSoFar → Judged CallsSoFar
condition_judged metas true ty rest = being metas types.Bool ty rest
condition_judged metas false ty rest = rest

abbrev pub iterator_judged : List MetaDesc → List ℕ → ℕ → CallsSoFar → TypedPart → Judged CallsSoFar
iterator_judged metas name number c body =
    finds (iterator_named (encode_utf8_all name)) (UnknownName name) (λ iterator.
    condition_judged metas (iterator_row iterator).conditional body.ty (
    gives (iterated c iterator number body)))
