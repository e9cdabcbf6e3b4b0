-- The types that are written in a script.
use Rattle.std.specs.Prelude.{ℕ, List, Option, None, Some, Result, Ok, Err, IfErr, IfSome}
use Rattle.qv_syntax.specs.declared.ty.Ty.{Ty}
use Rattle.qv_syntax.specs.declared.ty.Ty.TheVariants as types
use Rattle.qv_syntax.specs.declared.type_tree.Kind.{Kind}
use Rattle.qv_syntax.specs.declared.type_tree.TypeTree.{TypeTree, fold-TypeTree}
use Rattle.qv_syntax.specs.declared.type_tree.TypeTree.TheOpen as of
use Rattle.ocl_environments.specs.declared.fault.TypeFault.{TypeFault}
use Rattle.ocl_environments.specs.declared.fault.TypeFault.TheVariants.{UnknownName}
use Rattle.ocl_environments.specs.declared.fault.TypeError.{TypeError}
use Rattle.ocl_environments.specs.declared.fault.TypeError.TheVariants as errors
use Rattle.ocl_environments.specs.Environments.{Environment}
use Rattle.ocl_environments.specs.Naming.{names_of, joined_names}
use Rattle.ocl_environments.specs.Classifiers.{named_type}

-- the type that was found, or the path that names none
abbrev pub found_type : List (List ℕ) → Option Ty → Result Ty TypeFault
found_type names (Some ty) = Ok ty
found_type names None = Err (UnknownName (joined_names names))

-- a collection of the type, if there is one
abbrev pub collection_of : Kind → Result Ty TypeFault → Result Ty TypeFault
collection_of kind (Ok ty) = Ok (types.Coll kind ty)
collection_of kind (Err f) = Err f

abbrev pub written_step : Environment → of.TypeTree-F (Result Ty TypeFault) → Result Ty TypeFault
written_step env (of.Str span) = Ok types.Str
written_step env (of.Int span) = Ok types.Int
written_step env (of.Bool span) = Ok types.Bool
written_step env (of.Named path) = found_type (names_of path) (named_type env (names_of path))
written_step env (of.Coll kind inner span) = collection_of kind inner

-- the type that is written, or the fault: a path that doesn't name one class or enumeration alone
abbrev pub written : Environment → TypeTree → Result Ty TypeFault
written env = fold-TypeTree (Result Ty TypeFault) (written_step env)

-- the fault that an error holds
abbrev pub fault_in : TypeError → Option TypeFault
fault_in (errors.Fault f) = Some f
fault_in errors.NoMemory = None

-- of a fault that a function answers
abbrev pub IfFault : {X : Type 0} → Result X TypeError → (TypeFault → Type 0) → Type 0
IfFault result P = IfErr result (λ e. IfSome (fault_in e) P)
