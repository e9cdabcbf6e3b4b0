-- What a row of the table of operations says: behind what the operation stands, with which arguments, and what it gives then (OCL 2.4,
-- sections 11.3 to 11.9).
use Rattle.std.specs.Prelude.{◌≡◌, List, [], ◌∷◌, length, IsTrue}
use Rattle.mof_metamodel.specs.declared.desc.MetaDesc.{MetaDesc}
use Rattle.qv_syntax.specs.declared.operation.CollectionOperation.{CollectionOperation}
use Rattle.qv_syntax.specs.declared.operation.CollectionOperation.TheVariants as collections
use Rattle.qv_syntax.specs.declared.operation.IteratorKind.{IteratorKind}
use Rattle.qv_syntax.specs.declared.operation.Operation.{Operation}
use Rattle.qv_syntax.specs.declared.ty.Ty.{Ty}
use Rattle.qv_syntax.specs.declared.ty.Ty.TheVariants as types
use Rattle.qv_syntax.specs.declared.type_tree.Kind.{Kind}
use Rattle.ocl_types.specs.Operations.{operation_row, collection_row, iterator_row}
use Rattle.ocl_types.specs.Signatures.{parameter_count, parameter_type, result_type, argument_count, collection_result}
use Rattle.ocl_types.specs.TypingCollections.{iterated_type}
use Rattle.ocl_types.specs.TypeRules.{IsReceiver, IsOfKind, GivenConforms}

-- each of the types is this one
abbrev pub AreAll : Ty → List Ty → Type 0
AreAll wanted [] = Unit {0}
AreAll wanted (ty ∷ tys) = (ty ≡ wanted) × AreAll wanted tys

-- behind a value of type x, with arguments of these types, it gives type t
pub record RowGives (operation : Operation) (x : Ty) (args : List Ty) (t : Ty) : Type 0 where
  pub behind : IsReceiver (operation_row operation).receivers x
  pub count : length args ≡ parameter_count (operation_row operation).parameters
  pub each : AreAll (parameter_type (operation_row operation).parameters) args
  pub result : t ≡ result_type (operation_row operation).result x

-- `sum` stands behind Integers
abbrev pub IsSummed : CollectionOperation → Ty → Type 0
IsSummed collections.Sum of = of ≡ types.Int
IsSummed operation of = Unit {0}

-- behind a collection of the kind, whose elements have type `of`, with arguments of these types, it gives type t
pub record CollectionRowGives (metas : List MetaDesc) (operation : CollectionOperation) (kind : Kind) (of : Ty) (args : List Ty) (t : Ty) : Type 0 where
  pub behind : IsOfKind (collection_row operation).kinds kind
  pub count : length args ≡ argument_count (collection_row operation).argument
  pub summed : IsSummed operation of
  pub upper : Ty
  pub given : GivenConforms metas (collection_row operation).argument kind of args upper
  pub result : t ≡ collection_result (collection_row operation).result kind of upper

-- over such a collection, with a body of this type, it gives type t
pub record IteratorRowGives (iterator : IteratorKind) (kind : Kind) (of body t : Ty) : Type 0 where
  pub condition : IsTrue (iterator_row iterator).conditional → body ≡ types.Bool
  pub result : t ≡ iterated_type (iterator_row iterator).result kind of body
