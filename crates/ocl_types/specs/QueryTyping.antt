-- Queries (QVT 1.3, section 7.11.1.4) one after the other: their parameters and results, and their bodies.
use Rattle.std.specs.Prelude.{◌≡◌, ◌⊎◌, ℕ, length, Err, not, List, [], ◌∷◌, ◌++◌, None, Ok}
use Rattle.qv_syntax.specs.declared.ty.Ty.{Ty}
use Rattle.qv_syntax.specs.declared.query.Query.{Query}
use Rattle.qv_syntax.specs.declared.query.QueryTree.{QueryTree}
use Rattle.qv_syntax.specs.declared.query.ParamTree.{ParamTree}
use Rattle.ocl_environments.specs.declared.fault.TypeFault.{TypeFault}
use Rattle.ocl_environments.specs.declared.fault.TypeFault.TheVariants.{DuplicateName}
use Rattle.ocl_environments.specs.declared.variable.Signature.{Signature}
use Rattle.ocl_environments.specs.Environments.{Environment, is_query_bound, with_variable, with_query, without_variables}
use Rattle.ocl_environments.specs.Outcomes.{RuleResult, and_then, asking, wrong_type}
use Rattle.ocl_environments.specs.Agreement.{fits}
use Rattle.ocl_types.specs.TypingScopes.{let_type, declared_type}
use Rattle.ocl_types.specs.Typing.{typed}
use Rattle.ocl_environments.specs.QueryCalls.{IsCycleFault}

-- a parameter more, which has no model
abbrev pub with_param : Environment → List ℕ → Ty → Environment
with_param env name ty = with_variable env name (record { ty = ty; model = None })

-- the parameters in reach, and their types: their names differ, and none has a model
unfoldable pub params_from : Environment → List Ty → List ParamTree → RuleResult (Environment × List Ty)
params_from env types [] = Ok (env, types)
params_from env types (p ∷ ps) = and_then (let_type env p.name.text p.ty) (λ ty. params_from (with_param env p.name.text ty) (types ++ ty ∷ []) ps)

-- the types of a query's parameters and of its result
abbrev pub signature_of : Environment → QueryTree → RuleResult Signature
signature_of env q =
    and_then (declared_type env q.result) (λ result.
    and_then (params_from env [] q.params) (λ p.
    Ok (record { params = p.1; result = result })))

-- a query more in reach, whose name is free
abbrev pub query_bound : Environment → QueryTree → RuleResult Environment
query_bound env q =
    asking (not (is_query_bound env q.name.text)) (DuplicateName q.name.text) (
    and_then (signature_of env q) (λ signature. Ok (with_query env q.name.text signature)))

-- all queries in reach
unfoldable pub queries_bound : Environment → List QueryTree → RuleResult Environment
queries_bound env [] = Ok env
queries_bound env (q ∷ qs) = and_then (query_bound env q) (λ bound. queries_bound bound qs)

-- the body conforms to the result
abbrev pub body_typed : Environment → Ty → Environment × List Ty → QueryTree → RuleResult Query
body_typed env result p q =
    and_then (typed p.0 q.body) (λ body.
    asking (fits env.metas body.ty result) (wrong_type env.metas result body.ty) (
    Ok (record { name = q.name.text; params = p.1; result = result; body = body })))

-- a query, with all of them in reach
abbrev pub query_typed : Environment → QueryTree → RuleResult Query
query_typed env q =
    and_then (declared_type env q.result) (λ result.
    and_then (params_from env [] q.params) (λ p.
    body_typed env result p q))

unfoldable pub queries_from : Environment → List Query → List QueryTree → RuleResult (List Query)
queries_from env typed [] = Ok typed
queries_from env typed (q ∷ qs) = and_then (query_typed env q) (λ query. queries_from env (typed ++ query ∷ []) qs)

-- all queries, but for cycles; in their parameters and bodies no variable is in reach but the parameters
unfoldable pub queries_typed : Environment → List QueryTree → RuleResult (Environment × List Query)
queries_typed env qs = and_then (queries_bound (without_variables env) qs) (λ bound. and_then (queries_from bound [] qs) (λ typed. Ok (bound, typed)))

-- a typed query by its name, with the types of its parameters and of its result
abbrev pub signed : Query → List ℕ × Signature
signed q = (q.name, record { params = q.params; result = q.result })

-- a fault of these, or a query on a cycle of calls
abbrev pub IsFirstFault : Environment → List QueryTree → TypeFault → Type 0
IsFirstFault env qs f = (queries_typed env qs ≡ Err f)
    ⊎ ((bound : Environment) × (typed : List Query) × (queries_typed env qs ≡ Ok (bound, typed)) × IsCycleFault (length env.queries) typed f)
