-- Typed expressions as parts of others, and the variables that are in reach in them.
use Rattle.std.specs.Prelude.{ℕ, List, [], ◌∷◌, ◌++◌, Option, None, Some, map, Ok, Err}
use Rattle.std.specs.Option.{option_and_then}
use Rattle.qv_syntax.specs.declared.ty.Ty.{Ty}
use Rattle.qv_syntax.specs.declared.typed.Typed.{Typed}
use Rattle.qv_syntax.specs.declared.typed.Node.{Node}
use Rattle.qv_syntax.specs.declared.typed.Call.{Call}
use Rattle.ocl_environments.specs.declared.fault.TypeFault.TheVariants.{ModelMix}
use Rattle.ocl_environments.specs.declared.part.TypedPart.{TypedPart}
use Rattle.ocl_environments.specs.declared.part.CallsSoFar.{CallsSoFar}
use Rattle.ocl_environments.specs.declared.variable.Variable.{Variable}
use Rattle.ocl_environments.specs.Environments.{Environment, NamesWith}
use Rattle.ocl_environments.specs.Outcomes.{RuleResult}
use Rattle.ocl_environments.specs.Agreement.{joined_models}

-- what is in reach with further variables, behind the others: those of each `let` and each iterator around an expression
abbrev pub within : Environment → NamesWith Variable → Environment
within env locals = record env { variables = env.variables ++ locals }

-- the tree of a part
abbrev pub tree_of : TypedPart → Typed
tree_of p = record { ty = p.ty; node = p.node }

abbrev pub trees_of : List TypedPart → List Typed
trees_of parts = map tree_of parts

abbrev pub types_of : List TypedPart → List Ty
types_of parts = map (λ p. p.ty) parts

-- a part that is no object
abbrev pub plain_part : Ty → Node → TypedPart
plain_part ty node = record { ty = ty; model = None; node = node }

-- the model of objects from these places as well, if there are not two
abbrev pub with_models : Option ℕ → List TypedPart → Option (Option ℕ)
with_models model [] = Some model
with_models model (p ∷ ps) = option_and_then (λ m. with_models m ps) (joined_models model p.model)

-- the model, or the fault that there are two
abbrev pub one_model : List ℕ → Option (Option ℕ) → RuleResult (Option ℕ)
one_model name (Some model) = Ok model
one_model name None = Err (ModelMix name)

-- nothing is called yet
abbrev pub uncalled : TypedPart → CallsSoFar
uncalled p = record { calls = []; ty = p.ty; model = p.model }

-- one more call
abbrev pub and_called : CallsSoFar → Call → Ty → Option ℕ → CallsSoFar
and_called c call ty model = record { calls = c.calls ++ (record { call = call; ty = ty }) ∷ []; ty = ty; model = model }
