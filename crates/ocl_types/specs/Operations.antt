-- The operations of OCL, a row each: the name, what it stands behind, its arguments, and what it gives (OCL 2.4, sections 11.3 to
-- 11.9). What is looked up by name and what is asked by types are columns of one table. Names are bytes.
use Rattle.std.specs.Prelude.{ℕ, Bool, true, false, List, [], ◌∷◌, Option, codes}
use Rattle.std.specs.List.{find}
use Rattle.std.specs.Str.{bytes_eq}
use Rattle.qv_syntax.specs.declared.operation.Operation.{Operation}
use Rattle.qv_syntax.specs.declared.operation.Operation.TheVariants as singles
use Rattle.qv_syntax.specs.declared.operation.IteratorKind.{IteratorKind}
use Rattle.qv_syntax.specs.declared.operation.IteratorKind.TheVariants as iterators
use Rattle.qv_syntax.specs.declared.operation.ClassOperation.{ClassOperation}
use Rattle.qv_syntax.specs.declared.operation.ClassOperation.TheVariants as classes
use Rattle.ocl_types.specs.declared.operations.Receivers.{Receivers}
use Rattle.ocl_types.specs.declared.operations.Receivers.TheVariants as receivers
use Rattle.ocl_types.specs.declared.operations.Parameters.{Parameters}
use Rattle.ocl_types.specs.declared.operations.Parameters.TheVariants as parameters
use Rattle.ocl_types.specs.declared.operations.OperationResult.{OperationResult}
use Rattle.ocl_types.specs.declared.operations.OperationResult.TheVariants as gives
use Rattle.ocl_types.specs.declared.operations.IteratorResult.{IteratorResult}
use Rattle.ocl_types.specs.declared.operations.IteratorResult.TheVariants as iterates
use Rattle.ocl_types.specs.declared.operations.ClassResult.{ClassResult}
use Rattle.ocl_types.specs.declared.operations.ClassResult.TheVariants as tests
use Rattle.qv_syntax.specs.declared.operation.CollectionOperation.{CollectionOperation}
use Rattle.qv_syntax.specs.declared.operation.CollectionOperation.TheVariants as collections
use Rattle.ocl_types.specs.declared.collection_operations.Kinds.{Kinds}
use Rattle.ocl_types.specs.declared.collection_operations.Kinds.TheVariants as behind
use Rattle.ocl_types.specs.declared.collection_operations.Argument.{Argument}
use Rattle.ocl_types.specs.declared.collection_operations.Argument.TheVariants as takes
use Rattle.ocl_types.specs.declared.collection_operations.CollectionResult.{CollectionResult}
use Rattle.ocl_types.specs.declared.collection_operations.CollectionResult.TheVariants as comes

-- ---- operations on single values (sections 11.3.1 and 11.5)

pub record OperationRow : Type 0 where
  pub name : List ℕ
  pub receivers : Receivers
  pub parameters : Parameters
  pub result : OperationResult

abbrev single : List ℕ → Receivers → Parameters → OperationResult → OperationRow
single name receivers parameters result = record { name = name; receivers = receivers; parameters = parameters; result = result }

unfoldable pub operation_row : Operation → OperationRow
operation_row singles.Absolute = single (codes "abs") receivers.Int parameters.Nothing gives.Int
operation_row singles.Divide = single (codes "div") receivers.Int parameters.Int gives.Int
operation_row singles.Modulo = single (codes "mod") receivers.Int parameters.Int gives.Int
operation_row singles.Maximum = single (codes "max") receivers.Int parameters.Int gives.Int
operation_row singles.Minimum = single (codes "min") receivers.Int parameters.Int gives.Int
operation_row singles.ToString = single (codes "toString") receivers.IntOrBool parameters.Nothing gives.Str
operation_row singles.Length = single (codes "size") receivers.Str parameters.Nothing gives.Int
operation_row singles.Concatenate = single (codes "concat") receivers.Str parameters.Str gives.Str
operation_row singles.ToInteger = single (codes "toInteger") receivers.Str parameters.Nothing gives.Int
operation_row singles.Substring = single (codes "substring") receivers.Str parameters.TwoInts gives.Str
operation_row singles.IsUndefined = single (codes "oclIsUndefined") receivers.Any parameters.Nothing gives.Bool
operation_row singles.IsInvalid = single (codes "oclIsInvalid") receivers.Any parameters.Nothing gives.Bool
operation_row singles.AsSingletonSet = single (codes "oclAsSet") receivers.Any parameters.Nothing gives.SetOfIt

-- those that are called by their names; `oclAsSet` is what `->` takes of a single value
abbrev pub operations : List Operation
operations =
    singles.Absolute ∷ singles.Divide ∷ singles.Modulo ∷ singles.Maximum ∷ singles.Minimum ∷ singles.ToString ∷ singles.Length
    ∷ singles.Concatenate ∷ singles.ToInteger ∷ singles.Substring ∷ singles.IsUndefined ∷ singles.IsInvalid ∷ []

unfoldable pub operation_named : List ℕ → Option Operation
operation_named name = find (λ o. bytes_eq name (operation_row o).name) operations

-- ---- iterators (section 11.9)

pub record IteratorRow : Type 0 where
  pub name : List ℕ
  -- the body is a condition
  pub conditional : Bool
  pub result : IteratorResult

abbrev iterator : List ℕ → Bool → IteratorResult → IteratorRow
iterator name conditional result = record { name = name; conditional = conditional; result = result }

unfoldable pub iterator_row : IteratorKind → IteratorRow
iterator_row iterators.Select = iterator (codes "select") true iterates.Same
iterator_row iterators.Reject = iterator (codes "reject") true iterates.Same
iterator_row iterators.Collect = iterator (codes "collect") false iterates.Collected
iterator_row iterators.Exists = iterator (codes "exists") true iterates.Bool
iterator_row iterators.ForAll = iterator (codes "forAll") true iterates.Bool
iterator_row iterators.One = iterator (codes "one") true iterates.Bool
iterator_row iterators.IsUnique = iterator (codes "isUnique") false iterates.Bool

abbrev pub iterator_kinds : List IteratorKind
iterator_kinds =
    iterators.Select ∷ iterators.Reject ∷ iterators.Collect ∷ iterators.Exists ∷ iterators.ForAll ∷ iterators.One ∷ iterators.IsUnique ∷ []

unfoldable pub iterator_named : List ℕ → Option IteratorKind
iterator_named name = find (λ i. bytes_eq name (iterator_row i).name) iterator_kinds

-- ---- operations with a class (section 11.3.1)

pub record ClassRow : Type 0 where
  pub name : List ℕ
  pub result : ClassResult

unfoldable pub class_row : ClassOperation → ClassRow
class_row classes.IsTypeOf = record { name = codes "oclIsTypeOf"; result = tests.Bool }
class_row classes.IsKindOf = record { name = codes "oclIsKindOf"; result = tests.Bool }
class_row classes.AsType = record { name = codes "oclAsType"; result = tests.Object }

abbrev pub class_operations : List ClassOperation
class_operations = classes.IsTypeOf ∷ classes.IsKindOf ∷ classes.AsType ∷ []

unfoldable pub class_operation_named : List ℕ → Option ClassOperation
class_operation_named name = find (λ o. bytes_eq name (class_row o).name) class_operations

-- ---- operations on collections (section 11.7)

pub record CollectionRow : Type 0 where
  pub name : List ℕ
  -- the kinds of collections that it stands behind
  pub kinds : Kinds
  pub argument : Argument
  pub result : CollectionResult

abbrev many : List ℕ → Kinds → Argument → CollectionResult → CollectionRow
many name kinds argument result = record { name = name; kinds = kinds; argument = argument; result = result }

unfoldable pub collection_row : CollectionOperation → CollectionRow
collection_row collections.Size = many (codes "size") behind.Any takes.Nothing comes.Int
collection_row collections.IsEmpty = many (codes "isEmpty") behind.Any takes.Nothing comes.Bool
collection_row collections.NotEmpty = many (codes "notEmpty") behind.Any takes.Nothing comes.Bool
collection_row collections.Includes = many (codes "includes") behind.Any takes.Element comes.Bool
collection_row collections.Excludes = many (codes "excludes") behind.Any takes.Element comes.Bool
collection_row collections.IncludesAll = many (codes "includesAll") behind.Any takes.Collection comes.Bool
collection_row collections.ExcludesAll = many (codes "excludesAll") behind.Any takes.Collection comes.Bool
collection_row collections.Count = many (codes "count") behind.Any takes.Element comes.Int
collection_row collections.Sum = many (codes "sum") behind.Any takes.Nothing comes.Int
collection_row collections.Including = many (codes "including") behind.Any takes.Element comes.Wider
collection_row collections.Excluding = many (codes "excluding") behind.Any takes.Element comes.Same
collection_row collections.Union = many (codes "union") behind.Any takes.SameKind comes.Wider
collection_row collections.Intersection = many (codes "intersection") behind.Set takes.SameKind comes.Wider
collection_row collections.AsSet = many (codes "asSet") behind.Any takes.Nothing comes.Set
collection_row collections.AsBag = many (codes "asBag") behind.Any takes.Nothing comes.Bag
collection_row collections.AsSequence = many (codes "asSequence") behind.Any takes.Nothing comes.Sequence
collection_row collections.AsOrderedSet = many (codes "asOrderedSet") behind.Any takes.Nothing comes.OrderedSet
collection_row collections.First = many (codes "first") behind.Ordered takes.Nothing comes.Element
collection_row collections.Last = many (codes "last") behind.Ordered takes.Nothing comes.Element
collection_row collections.At = many (codes "at") behind.Ordered takes.Index comes.Element
collection_row collections.Append = many (codes "append") behind.Ordered takes.Element comes.Wider
collection_row collections.Prepend = many (codes "prepend") behind.Ordered takes.Element comes.Wider

abbrev pub collection_operations : List CollectionOperation
collection_operations =
    collections.Size ∷ collections.IsEmpty ∷ collections.NotEmpty ∷ collections.Includes ∷ collections.Excludes
    ∷ collections.IncludesAll ∷ collections.ExcludesAll ∷ collections.Count ∷ collections.Sum ∷ collections.Including
    ∷ collections.Excluding ∷ collections.Union ∷ collections.Intersection ∷ collections.AsSet ∷ collections.AsBag
    ∷ collections.AsSequence ∷ collections.AsOrderedSet ∷ collections.First ∷ collections.Last ∷ collections.At
    ∷ collections.Append ∷ collections.Prepend ∷ []

unfoldable pub collection_operation_named : List ℕ → Option CollectionOperation
collection_operation_named name = find (λ o. bytes_eq name (collection_row o).name) collection_operations
