-- What is called on collections: operations and iterators (OCL 2.4, sections 7.6 and 11.7 to 11.9).
use Rattle.std.specs.Prelude.{ℕ, Bool, true, false, not, ◌||◌, List, [], ◌∷◌, Option, None, Some, encode_utf8_all, Ok, Err}
use Rattle.mof_metamodel.specs.declared.desc.MetaDesc.{MetaDesc}
use Rattle.qv_syntax.specs.declared.operation.Operation.TheVariants as singles
use Rattle.qv_syntax.specs.declared.operation.CollectionOperation.{CollectionOperation}
use Rattle.qv_syntax.specs.declared.operation.CollectionOperation.TheVariants as collections
use Rattle.qv_syntax.specs.declared.operation.IteratorKind.{IteratorKind}
use Rattle.ocl_types.specs.declared.operations.IteratorResult.{IteratorResult}
use Rattle.ocl_types.specs.declared.operations.IteratorResult.TheVariants as iterates
use Rattle.qv_syntax.specs.declared.ty.Ty.{Ty}
use Rattle.qv_syntax.specs.declared.ty.Ty.TheVariants as types
use Rattle.qv_syntax.specs.declared.type_tree.Kind.{Kind}
use Rattle.qv_syntax.specs.declared.type_tree.Kind.TheVariants as kinds
use Rattle.qv_syntax.specs.declared.type_tree.TypeTree.{TypeTree}
use Rattle.qv_syntax.specs.declared.typed.Call.{Call}
use Rattle.qv_syntax.specs.declared.typed.Call.TheVariants as calls
use Rattle.ocl_environments.specs.declared.fault.TypeFault.TheVariants.{UnknownName}
use Rattle.ocl_environments.specs.declared.part.TypedPart.{TypedPart}
use Rattle.ocl_environments.specs.declared.part.CallsSoFar.{CallsSoFar}
use Rattle.ocl_environments.specs.declared.variable.Variable.{Variable}
use Rattle.ocl_types.specs.declared.collection_operations.Argument.{Argument}
use Rattle.ocl_types.specs.declared.collection_operations.Argument.TheVariants as arguments
use Rattle.ocl_environments.specs.Environments.{Environment}
use Rattle.ocl_types.specs.Operations.{collection_row, iterator_row, collection_operation_named, iterator_named}
use Rattle.ocl_types.specs.Signatures.{argument_count, is_of_kind, collection_result, collected_kind}
use Rattle.ocl_environments.specs.Outcomes.{RuleResult, and_then, asking, wrong_type}
use Rattle.ocl_environments.specs.Agreement.{same_kind, same_type, collection_parts, model_for, fits, upper, exactly}
use Rattle.ocl_environments.specs.Parts.{tree_of, trees_of, with_models, one_model, and_called}
use Rattle.ocl_types.specs.TypingScopes.{declared_type}
use Rattle.ocl_environments.specs.Lets.{free_name}
use Rattle.ocl_types.specs.TypingSteps.{counted}

-- ---- what an arrow stands behind: a collection, or a single value, of which it takes the Set

abbrev pub kind_by : Option (Kind × Ty) → Kind
kind_by None = kinds.Set
kind_by (Some (kind, inner)) = kind

abbrev pub element_by : Ty → Option (Kind × Ty) → Ty
element_by ty None = ty
element_by ty (Some (kind, inner)) = inner

-- the kind of the collection, and the type of its elements
abbrev pub kind_of : Ty → Kind
kind_of ty = kind_by (collection_parts ty)

abbrev pub element_of : Ty → Ty
element_of ty = element_by ty (collection_parts ty)

abbrev pub gathered_by : CallsSoFar → Option (Kind × Ty) → CallsSoFar
gathered_by c None = and_called c (calls.Operation singles.AsSingletonSet []) (types.Coll kinds.Set c.ty) c.model
gathered_by c (Some parts) = c

-- the value as a collection
abbrev pub gathered : CallsSoFar → CallsSoFar
gathered c = gathered_by c (collection_parts c.ty)

-- called on the collection, with a result of this type, whose objects are of this model
abbrev pub called_on : CallsSoFar → Call → Ty → Option ℕ → CallsSoFar
called_on c call ty model = and_called (gathered c) call ty (model_for ty model)

-- ---- operations

-- the type to which the elements and those of a given collection conform
abbrev pub given_elements : List MetaDesc → Bool → Kind → Ty → Ty → Option (Kind × Ty) → RuleResult Ty
given_elements metas same kind of ty (Some (other, inner)) = asking (not same || same_kind kind other) (wrong_type metas (types.Coll kind of) ty) (upper metas of inner)
given_elements metas same kind of ty None = Err (wrong_type metas (types.Coll kind of) ty)

-- the type to which the elements of a collection and what is given of this type conform
abbrev pub given_type : List MetaDesc → Argument → Kind → Ty → Ty → RuleResult Ty
given_type metas arguments.Nothing kind of ty = Ok of
given_type metas arguments.Element kind of ty = upper metas of ty
given_type metas arguments.Collection kind of ty = given_elements metas false kind of ty (collection_parts ty)
given_type metas arguments.SameKind kind of ty = given_elements metas true kind of ty (collection_parts ty)
given_type metas arguments.Index kind of ty = and_then (exactly metas types.Int ty) (λ u. Ok of)

abbrev pub given_types : List MetaDesc → Argument → Kind → Ty → List TypedPart → RuleResult Ty
given_types metas argument kind of [] = Ok of
given_types metas argument kind of (p ∷ ps) = given_type metas argument kind of p.ty

-- `sum` asks for Integers
abbrev pub summed : List MetaDesc → CollectionOperation → Ty → RuleResult (Unit {0})
summed metas collections.Sum of = exactly metas types.Int of
summed metas operation of = Ok tt

-- the model of the result, of that of the collection and of that joined with what is given: `excluding` gives no new objects
abbrev pub result_model : CollectionOperation → Option ℕ → Option ℕ → Option ℕ
result_model collections.Excluding model joined = model
result_model operation model joined = joined

abbrev pub operated_on : CallsSoFar → CollectionOperation → List TypedPart → Kind → Ty → Ty → Option ℕ → CallsSoFar
operated_on c operation args kind of upper_type joined =
    called_on c (calls.Collection operation (trees_of args)) (collection_result (collection_row operation).result kind of upper_type) (result_model operation c.model joined)

abbrev pub collection_operation_by : List MetaDesc → List ℕ → CallsSoFar → List TypedPart → Option CollectionOperation → RuleResult CallsSoFar
collection_operation_by metas name c args None = Err (UnknownName name)
collection_operation_by metas name c args (Some operation) =
    asking (is_of_kind (collection_row operation).kinds (kind_of c.ty)) (UnknownName name) (
    and_then (counted name (argument_count (collection_row operation).argument) args) (λ u.
    and_then (summed metas operation (element_of c.ty)) (λ v.
    and_then (given_types metas (collection_row operation).argument (kind_of c.ty) (element_of c.ty) args) (λ ty.
    and_then (one_model name (with_models c.model args)) (λ joined.
    Ok (operated_on c operation args (kind_of c.ty) (element_of c.ty) ty joined))))))

-- `->name(args)`
unfoldable pub collection_operation_rule : List MetaDesc → List ℕ → CallsSoFar → List TypedPart → RuleResult CallsSoFar
collection_operation_rule metas name c args = collection_operation_by metas name c args (collection_operation_named (encode_utf8_all name))

-- ---- iterators

-- the type of the variable: that of the elements, or a written one to which this conforms
abbrev pub variable_type : Environment → Option TypeTree → Ty → RuleResult Ty
variable_type env None of = Ok of
variable_type env (Some tree) of = and_then (declared_type env tree) (λ ty. asking (fits env.metas of ty) (wrong_type env.metas ty of) (Ok ty))

-- the variable of an iterator over what was called so far
unfoldable pub iterator_variable : Environment → List ℕ → Option TypeTree → CallsSoFar → RuleResult Variable
iterator_variable env name tree c =
    and_then (free_name env name) (λ u.
    and_then (variable_type env tree (element_of c.ty)) (λ ty.
    Ok (record { ty = ty; model = c.model })))

-- the type of the result, of that of the body
abbrev pub iterated_type : IteratorResult → Kind → Ty → Ty → Ty
iterated_type iterates.Same kind of body = types.Coll kind of
iterated_type iterates.Collected kind of body = types.Coll (collected_kind kind) (element_of body)
iterated_type iterates.Bool kind of body = types.Bool

-- the model of its objects, which are the collection's or the body's
abbrev pub iterated_model : IteratorResult → Option ℕ → Option ℕ → Option ℕ
iterated_model iterates.Same model body = model
iterated_model iterates.Collected model body = body
iterated_model iterates.Bool model body = model

abbrev pub iterated : CallsSoFar → IteratorKind → ℕ → TypedPart → CallsSoFar
iterated c iterator number body =
    called_on c (calls.Iterator iterator number (tree_of body)) (iterated_type (iterator_row iterator).result (kind_of c.ty) (element_of c.ty) body.ty)
    (iterated_model (iterator_row iterator).result c.model body.model)

-- a body that is a condition is a Boolean
abbrev pub condition : List MetaDesc → Bool → Ty → RuleResult (Unit {0})
condition metas conditional ty = asking (not conditional || same_type ty types.Bool) (wrong_type metas types.Bool ty) (Ok tt)

abbrev pub iterator_by : List MetaDesc → List ℕ → ℕ → CallsSoFar → TypedPart → Option IteratorKind → RuleResult CallsSoFar
iterator_by metas name number c body None = Err (UnknownName name)
iterator_by metas name number c body (Some iterator) = and_then (condition metas (iterator_row iterator).conditional body.ty) (λ u. Ok (iterated c iterator number body))

-- `->name(variable | body)`, of the variable's number
unfoldable pub iterator_rule : List MetaDesc → List ℕ → ℕ → CallsSoFar → TypedPart → RuleResult CallsSoFar
iterator_rule metas name number c body = iterator_by metas name number c body (iterator_named (encode_utf8_all name))
