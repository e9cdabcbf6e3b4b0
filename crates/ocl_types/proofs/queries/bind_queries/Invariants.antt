use Rattle.std.proofs.Common.{◌≡◌, drop, map}
use Rattle.ocl_environments.specs.Environments.{without_variables, without_names}
use Rattle.ocl_types.specs.QueryTyping.{queries_bound}
use Rattle.ocl_types.proofs.queries.bind_queries.Given as goal

-- the rest of the queries is to be bound
abbrev pub invariant-loop-query : goal.invariant-loop-query
invariant-loop-query l = (queries_bound l.env (map (λ q. q.now) (drop l.query-index l.queries)) ≡ queries_bound l.fn.env (map (λ q. q.now) l.queries))
    × (without_variables l.env ≡ l.env) × (without_names l.env ≡ without_names l.fn.env)
