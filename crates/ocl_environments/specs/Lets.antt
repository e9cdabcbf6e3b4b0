-- Names that are free, and the variable of a `let` (OCL 2.4, section 7.4.3).
use Rattle.std.specs.Prelude.{ℕ, not, List, Ok}
use Rattle.mof_metamodel.specs.declared.desc.MetaDesc.{MetaDesc}
use Rattle.qv_syntax.specs.declared.ty.Ty.{Ty}
use Rattle.ocl_environments.specs.declared.fault.TypeFault.TheVariants.{DuplicateName}
use Rattle.ocl_environments.specs.declared.part.TypedPart.{TypedPart}
use Rattle.ocl_environments.specs.declared.variable.Variable.{Variable}
use Rattle.ocl_environments.specs.Environments.{Environment, is_bound}
use Rattle.ocl_environments.specs.Outcomes.{RuleResult, asking, wrong_type}
use Rattle.ocl_environments.specs.Agreement.{fits}

-- a name that is free: variables hide nothing
abbrev pub free_name : Environment → List ℕ → RuleResult (Unit {0})
free_name env name = asking (not (is_bound env name)) (DuplicateName name) (Ok tt)

-- the variable: the value's type conforms to the written one, and its model is the value's
unfoldable pub let_variable : List MetaDesc → Ty → TypedPart → RuleResult Variable
let_variable metas ty value = asking (fits metas value.ty ty) (wrong_type metas ty value.ty) (Ok (record { ty = ty; model = value.model }))
