-- What is called on one value: properties, operations, type tests, extents and queries (OCL 2.4, sections 7.5 and 11.3 to 11.5).
use Rattle.std.specs.Prelude.{ℕ, Bool, false, ◌&&◌, ◌==◌, nat_lt, if◌then◌else◌, List, [], ◌∷◌, Option, None, Some, length, encode_utf8_all, Ok, Err}
use Rattle.std.specs.Option.{option_map, option_and_then}
use Rattle.mof_metamodel.specs.declared.desc.MetaDesc.{MetaDesc}
use Rattle.mof_metamodel.specs.declared.desc.ClassId.{ClassId}
use Rattle.mof_metamodel.specs.declared.desc.PropId.{PropId}
use Rattle.mof_metamodel.specs.Metamodels.{class_count, prop_number, prop_at, type_of}
use Rattle.qv_syntax.specs.declared.name.Path.{Path}
use Rattle.qv_syntax.specs.declared.operation.Operation.{Operation}
use Rattle.qv_syntax.specs.declared.operation.ClassOperation.{ClassOperation}
use Rattle.ocl_types.specs.declared.operations.ClassResult.{ClassResult}
use Rattle.ocl_types.specs.declared.operations.ClassResult.TheVariants as tests
use Rattle.qv_syntax.specs.declared.ty.Ty.{Ty}
use Rattle.qv_syntax.specs.declared.ty.Ty.TheVariants as types
use Rattle.qv_syntax.specs.declared.type_tree.Kind.{Kind}
use Rattle.qv_syntax.specs.declared.type_tree.Kind.TheVariants as kinds
use Rattle.qv_syntax.specs.declared.typed.Values.{Values}
use Rattle.qv_syntax.specs.declared.typed.Call.{Call}
use Rattle.qv_syntax.specs.declared.typed.Call.TheVariants as calls
use Rattle.qv_syntax.specs.declared.typed.Node.TheVariants as nodes
use Rattle.ocl_environments.specs.declared.fault.TypeFault.TheVariants.{UnknownName, WrongCount, ModelMix}
use Rattle.ocl_environments.specs.declared.part.TypedPart.{TypedPart}
use Rattle.ocl_environments.specs.declared.part.CallsSoFar.{CallsSoFar}
use Rattle.ocl_environments.specs.declared.variable.Signature.{Signature}
use Rattle.ocl_environments.specs.Environments.{Environment, meta_at, class_of, number_of, value_of, only_model}
use Rattle.ocl_environments.specs.Naming.{names_of, path_text}
use Rattle.ocl_environments.specs.Classifiers.{named_class}
use Rattle.ocl_environments.specs.Navigation.{value_type, values_of, navigated}
use Rattle.ocl_types.specs.Operations.{operation_row, class_row, operation_named, class_operation_named}
use Rattle.ocl_types.specs.Signatures.{is_receiver, parameter_count, parameter_type, result_type, collected_kind}
use Rattle.ocl_environments.specs.Outcomes.{RuleResult, and_then, asking, wrong_type}
use Rattle.ocl_environments.specs.Agreement.{collection_parts, model_for, fits, exactly}
use Rattle.ocl_environments.specs.Parts.{trees_of, and_called}

-- ---- properties

-- what navigation to a property of this number gives, and the type of one value
abbrev pub described : ℕ → MetaDesc → ℕ → Option (PropId × Values × Ty)
described m meta p = option_map (λ ty. (record { 0 = p }, values_of (prop_at meta p), value_type m ty)) (type_of meta p)

-- the property of this name of a class
abbrev pub class_property : List MetaDesc → ℕ → ClassId → List ℕ → Option (PropId × Values × Ty)
class_property metas m c name =
    if nat_lt m (length metas) && nat_lt c.0 (class_count (meta_at metas m)) then option_and_then (described m (meta_at metas m)) (prop_number (meta_at metas m) c.0 name) else None

-- of a type: values of other types than classes have none
abbrev pub property_of : List MetaDesc → Ty → List ℕ → Option (PropId × Values × Ty)
property_of metas ty name = option_and_then (λ c. class_property metas c.0 c.1 name) (class_of ty)

abbrev pub navigated_to : List ℕ → CallsSoFar → Option (PropId × Values × Ty) → RuleResult CallsSoFar
navigated_to name c (Some p) = Ok (and_called c (calls.Property p.0 p.1) (navigated p.1 p.2) (model_for p.2 c.model))
navigated_to name c None = Err (UnknownName name)

-- of each object of a collection: what is many values is put together, as by `collect`
abbrev pub collected_from : List ℕ → CallsSoFar → Kind → Option (PropId × Values × Ty) → RuleResult CallsSoFar
collected_from name c kind (Some p) = Ok (and_called c (calls.CollectProperty p.0 p.1) (types.Coll (collected_kind kind) p.2) (model_for p.2 c.model))
collected_from name c kind None = Err (UnknownName name)

abbrev pub property_by : List MetaDesc → List ℕ → CallsSoFar → Option (Kind × Ty) → RuleResult CallsSoFar
property_by metas name c None = navigated_to name c (property_of metas c.ty name)
property_by metas name c (Some (kind, inner)) = collected_from name c kind (property_of metas inner name)

-- `.name` on an object, or on each object of a collection
unfoldable pub property_rule : List MetaDesc → List ℕ → CallsSoFar → RuleResult CallsSoFar
property_rule metas name c = property_by metas name c (collection_parts c.ty)

-- ---- operations on single values

-- called on the value, with a result of this type, whose objects are of the value's model
abbrev pub called_with : CallsSoFar → Call → Ty → CallsSoFar
called_with c call ty = and_called c call ty (model_for ty c.model)

-- each argument has this very type
abbrev pub each_exactly : List MetaDesc → Ty → List TypedPart → RuleResult (Unit {0})
each_exactly metas wanted [] = Ok tt
each_exactly metas wanted (p ∷ ps) = and_then (exactly metas wanted p.ty) (λ u. each_exactly metas wanted ps)

-- so many arguments
abbrev pub counted : List ℕ → ℕ → List TypedPart → RuleResult (Unit {0})
counted name n args = asking (length args == n) (WrongCount name) (Ok tt)

abbrev pub operation_by : List MetaDesc → List ℕ → CallsSoFar → List TypedPart → Option Operation → RuleResult CallsSoFar
operation_by metas name c args None = Err (UnknownName name)
operation_by metas name c args (Some operation) =
    asking (is_receiver (operation_row operation).receivers c.ty) (UnknownName name) (
    and_then (counted name (parameter_count (operation_row operation).parameters) args) (λ u.
    and_then (each_exactly metas (parameter_type (operation_row operation).parameters) args) (λ v.
    Ok (called_with c (calls.Operation operation (trees_of args)) (result_type (operation_row operation).result c.ty)))))

-- `.name(args)`: an operation on the value
unfoldable pub operation_rule : List MetaDesc → List ℕ → CallsSoFar → List TypedPart → RuleResult CallsSoFar
operation_rule metas name c args = operation_by metas name c args (operation_named (encode_utf8_all name))

-- ---- type tests and casts

abbrev pub class_or : Path → Option (ℕ × ClassId) → RuleResult (ℕ × ClassId)
class_or path (Some c) = Ok c
class_or path None = Err (UnknownName (path_text path))

-- the class that a path names alone
abbrev pub class_at_path : Environment → Path → RuleResult (ℕ × ClassId)
class_at_path env path = class_or path (named_class env (names_of path))

abbrev pub is_of_meta : ℕ → Option (ℕ × ClassId) → Bool
is_of_meta m (Some c) = c.0 == m
is_of_meta m None = false

abbrev pub tested : ClassResult → ℕ × ClassId → Ty
tested tests.Bool c = types.Bool
tested tests.Object c = types.Class c.0 c.1

-- with a class of the object's metamodel
abbrev pub tested_with : List MetaDesc → CallsSoFar → ClassOperation → ℕ × ClassId → RuleResult CallsSoFar
tested_with metas c operation class =
    asking (is_of_meta class.0 (class_of c.ty)) (wrong_type metas (types.Class class.0 class.1) c.ty) (
    Ok (called_with c (calls.Class operation class.1) (tested (class_row operation).result class)))

abbrev pub class_operation_by : Environment → List ℕ → Path → CallsSoFar → Option ClassOperation → RuleResult CallsSoFar
class_operation_by env name path c None = Err (UnknownName name)
class_operation_by env name path c (Some operation) = and_then (class_at_path env path) (tested_with env.metas c operation)

-- `.name(C)`
unfoldable pub class_operation_rule : Environment → List ℕ → Path → CallsSoFar → RuleResult CallsSoFar
class_operation_rule env name path c = class_operation_by env name path c (class_operation_named (encode_utf8_all name))

-- ---- extents

abbrev pub model_or : Path → Option ℕ → RuleResult ℕ
model_or path (Some model) = Ok model
model_or path None = Err (ModelMix (path_text path))

abbrev pub extent_part : ℕ × ClassId → ℕ → TypedPart
extent_part class model = record { ty = types.Coll kinds.Set (types.Class class.0 class.1); model = Some model; node = nodes.Extent model class.1 }

-- `C.allInstances()`: the objects of the one model that has the metamodel of the class
unfoldable pub extent_rule : Environment → Path → RuleResult TypedPart
extent_rule env path =
    and_then (class_at_path env path) (λ class.
    and_then (model_or path (only_model env.models class.0)) (λ model.
    Ok (extent_part class model)))

-- ---- queries

-- each argument conforms to the type of its parameter
abbrev pub each_fits : List MetaDesc → List Ty → List TypedPart → RuleResult (Unit {0})
each_fits metas [] args = Ok tt
each_fits metas (ty ∷ types) [] = Ok tt
each_fits metas (ty ∷ types) (p ∷ ps) = asking (fits metas p.ty ty) (wrong_type metas ty p.ty) (each_fits metas types ps)

abbrev pub query_part : ℕ → Signature → List TypedPart → TypedPart
query_part number signature args = record { ty = signature.result; model = None; node = nodes.Query number (trees_of args) }

abbrev pub query_by : List MetaDesc → List ℕ → List TypedPart → Option ℕ → Option Signature → RuleResult TypedPart
query_by metas name args (Some number) (Some signature) =
    and_then (counted name (length signature.params) args) (λ u.
    and_then (each_fits metas signature.params args) (λ v.
    Ok (query_part number signature args)))
query_by metas name args (Some number) None = Err (UnknownName name)
query_by metas name args None signature = Err (UnknownName name)

-- `name(args)`: a query. Its arguments may be objects of any models, and its result has none.
unfoldable pub query_rule : Environment → List ℕ → List TypedPart → RuleResult TypedPart
query_rule env name args = query_by env.metas name args (number_of env.queries name) (value_of env.queries name)
