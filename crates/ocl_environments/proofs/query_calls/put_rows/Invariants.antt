use Rattle.std.proofs.Common.{◌≡◌, ◌++◌, take, map}
use Rattle.ocl_environments.specs.QueryCalls.{called_by}
use Rattle.ocl_environments.proofs.query_calls.put_rows.Given as goal

abbrev pub invariant-loop-query : goal.invariant-loop-query
invariant-loop-query l = l.rows ≡ l.fn.rows ++ map (λ q. called_by q.body) (take l.query-index l.queries)
