-- What queries are, typed, and which faults stand in them (QVT 1.3, section 7.11.1.4; OCL 2.4, section 9.4), by rules as those of expressions:
-- demands have no order, and each that isn't met has its fault, whatever the others are.
use Rattle.std.specs.Prelude.{◌≡◌, false, List, [], ◌∷◌}
use Rattle.qv_syntax.specs.declared.ty.Ty.{Ty}
use Rattle.qv_syntax.specs.declared.expr.Expr.{Expr}
use Rattle.qv_syntax.specs.declared.typed.Typed.{Typed}
use Rattle.qv_syntax.specs.declared.query.Query.{Query}
use Rattle.qv_syntax.specs.declared.query.QueryTree.{QueryTree}
use Rattle.qv_syntax.specs.declared.query.ParamTree.{ParamTree}
use Rattle.ocl_environments.specs.declared.fault.TypeFault.{TypeFault}
use Rattle.ocl_environments.specs.declared.fault.TypeFault.TheVariants.{DuplicateName}
use Rattle.ocl_environments.specs.declared.variable.Signature.{Signature}
use Rattle.ocl_environments.specs.Environments.{Environment, is_query_bound, with_query, without_variables}
use Rattle.ocl_environments.specs.Parts.{tree_of}
use Rattle.ocl_types.specs.Judged.{Judged, gives, asks, taking, both}
use Rattle.ocl_types.specs.TypeRules.{conforming, declared_judged, let_judged}
use Rattle.ocl_types.specs.HasType.{judgment}
use Rattle.ocl_types.specs.QueryTyping.{with_param}

-- ---- parameters

-- what is in reach with the parameters, and their types: each has the type that is written, a name of its own and no model
abbrev pub params_judged : Environment → List ParamTree → Judged (Environment × List Ty)
params_judged env [] = gives (env, [])
params_judged env (p ∷ ps) =
    taking (let_judged env p.name.text p.ty) (λ ty. taking (params_judged (with_param env p.name.text ty) ps) (λ r. gives (r.0, ty ∷ r.1)))

-- ---- what a query says of its types

abbrev pub signature_judged : Environment → QueryTree → Judged Signature
signature_judged env q = taking (both (declared_judged env q.result) (params_judged env q.params)) (λ s. gives (record { params = s.1.1; result = s.0 }))

-- what is in reach with the query, which has a name of its own
abbrev pub reach_judged : Environment → QueryTree → Judged Environment
reach_judged env q = asks (is_query_bound env q.name.text ≡ false) (DuplicateName q.name.text) (taking (signature_judged env q) (λ s. gives (with_query env q.name.text s)))

-- and with several of them
abbrev pub reached_judged : Environment → List QueryTree → Judged Environment
reached_judged env [] = gives env
reached_judged env (q ∷ qs) = taking (reach_judged env q) (λ bound. reached_judged bound qs)

-- ---- bodies, with all queries in reach

abbrev pub tree_judged : Environment → Expr → Judged Typed
tree_judged env e = taking ((judgment e).part env) (λ p. gives (tree_of p))

-- the body has the type of the result or one that conforms to it, with the parameters alone in reach
abbrev pub body_judged : Environment → Ty → Environment × List Ty → QueryTree → Judged Query
body_judged env result p q =
    taking (tree_judged p.0 q.body) (λ body. conforming env.metas result body.ty (gives (record { name = q.name.text; params = p.1; result = result; body = body })))

abbrev pub typed_query_judged : Environment → QueryTree → Judged Query
typed_query_judged env q = taking (both (declared_judged env q.result) (params_judged env q.params)) (λ s. body_judged env s.0 s.1 q)

abbrev pub bodies_judged : Environment → List QueryTree → Judged (List Query)
bodies_judged env [] = gives []
bodies_judged env (q ∷ qs) = taking (both (typed_query_judged env q) (bodies_judged env qs)) (λ p. gives (p.0 ∷ p.1))

-- ---- all queries, but for their calls of one another

abbrev pub queries_judged : Environment → List QueryTree → Judged (Environment × List Query)
queries_judged env qs = taking (reached_judged (without_variables env) qs) (λ bound. taking (bodies_judged bound qs) (λ typed. gives (bound, typed)))

-- with the queries in reach the environment is this, and these are they, typed
unfoldable pub AreQueries : Environment → List QueryTree → Environment → List Query → Type 0
AreQueries env qs bound typed = (queries_judged env qs).has (bound, typed)

-- a fault stands in queries
unfoldable pub StandInQueries : Environment → List QueryTree → TypeFault → Type 0
StandInQueries env qs f = (queries_judged env qs).stands f
