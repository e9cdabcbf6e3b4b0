-- What the columns of the table of operations ask of types, and what they give (OCL 2.4, sections 11.3 to 11.9).
use Rattle.std.specs.Prelude.{ℕ, Bool, true, false, ◌||◌}
use Rattle.qv_syntax.specs.declared.type_tree.Kind.{Kind}
use Rattle.qv_syntax.specs.declared.type_tree.Kind.TheVariants as kinds
use Rattle.qv_syntax.specs.declared.ty.Ty.{Ty}
use Rattle.qv_syntax.specs.declared.ty.Ty.TheVariants as types
use Rattle.ocl_types.specs.declared.operations.Receivers.{Receivers}
use Rattle.ocl_types.specs.declared.operations.Receivers.TheVariants as receivers
use Rattle.ocl_types.specs.declared.operations.Parameters.{Parameters}
use Rattle.ocl_types.specs.declared.operations.Parameters.TheVariants as parameters
use Rattle.ocl_types.specs.declared.operations.OperationResult.{OperationResult}
use Rattle.ocl_types.specs.declared.operations.OperationResult.TheVariants as gives
use Rattle.ocl_types.specs.declared.collection_operations.Kinds.{Kinds}
use Rattle.ocl_types.specs.declared.collection_operations.Kinds.TheVariants as behind
use Rattle.ocl_types.specs.declared.collection_operations.Argument.{Argument}
use Rattle.ocl_types.specs.declared.collection_operations.Argument.TheVariants as arguments
use Rattle.ocl_types.specs.declared.collection_operations.CollectionResult.{CollectionResult}
use Rattle.ocl_types.specs.declared.collection_operations.CollectionResult.TheVariants as comes
use Rattle.ocl_environments.specs.Agreement.{same_type}

-- ---- operations on single values

-- values of this type are among the receivers
abbrev pub is_receiver : Receivers → Ty → Bool
is_receiver receivers.Int ty = same_type ty types.Int
is_receiver receivers.IntOrBool ty = same_type ty types.Int || same_type ty types.Bool
is_receiver receivers.Str ty = same_type ty types.Str
is_receiver receivers.Any ty = true

-- how many arguments there are
abbrev pub parameter_count : Parameters → ℕ
parameter_count parameters.Nothing = 0
parameter_count parameters.Int = 1
parameter_count parameters.TwoInts = 2
parameter_count parameters.Str = 1

-- the type of each argument, where there is one
abbrev pub parameter_type : Parameters → Ty
parameter_type parameters.Nothing = types.Int
parameter_type parameters.Int = types.Int
parameter_type parameters.TwoInts = types.Int
parameter_type parameters.Str = types.Str

-- the type of the result, of that of the value
abbrev pub result_type : OperationResult → Ty → Ty
result_type gives.Int ty = types.Int
result_type gives.Str ty = types.Str
result_type gives.Bool ty = types.Bool
result_type gives.SetOfIt ty = types.Coll kinds.Set ty

-- ---- operations on collections

abbrev pub argument_count : Argument → ℕ
argument_count arguments.Nothing = 0
argument_count arguments.Element = 1
argument_count arguments.Collection = 1
argument_count arguments.SameKind = 1
argument_count arguments.Index = 1

-- a kind whose elements stand in an order
abbrev pub is_ordered : Kind → Bool
is_ordered kinds.Set = false
is_ordered kinds.Bag = false
is_ordered kinds.Sequence = true
is_ordered kinds.OrderedSet = true

abbrev pub is_set : Kind → Bool
is_set kinds.Set = true
is_set kinds.Bag = false
is_set kinds.Sequence = false
is_set kinds.OrderedSet = false

-- collections of this kind are among the receivers
abbrev pub is_of_kind : Kinds → Kind → Bool
is_of_kind behind.Any kind = true
is_of_kind behind.Set kind = is_set kind
is_of_kind behind.Ordered kind = is_ordered kind

-- the type of the result: of the kind and the type of the elements, and of the type to which these and what is given conform
abbrev pub collection_result : CollectionResult → Kind → Ty → Ty → Ty
collection_result comes.Int kind of upper = types.Int
collection_result comes.Bool kind of upper = types.Bool
collection_result comes.Element kind of upper = of
collection_result comes.Same kind of upper = types.Coll kind of
collection_result comes.Wider kind of upper = types.Coll kind upper
collection_result comes.Set kind of upper = types.Coll kinds.Set of
collection_result comes.Bag kind of upper = types.Coll kinds.Bag of
collection_result comes.Sequence kind of upper = types.Coll kinds.Sequence of
collection_result comes.OrderedSet kind of upper = types.Coll kinds.OrderedSet of

-- ---- iterators

-- the kind of what `collect` gives
abbrev pub collected_kind : Kind → Kind
collected_kind kinds.Set = kinds.Bag
collected_kind kinds.Bag = kinds.Bag
collected_kind kinds.Sequence = kinds.Sequence
collected_kind kinds.OrderedSet = kinds.Sequence
