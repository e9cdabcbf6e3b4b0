use Rattle.std.proofs.Common.{◌≡◌, [], drop, map}
use Rattle.ocl_types.specs.QueryTyping.{queries_from}
use Rattle.ocl_types.proofs.queries.type_bodies.Given as goal

-- the rest of the queries is to be typed
abbrev pub invariant-loop-query : goal.invariant-loop-query
invariant-loop-query l = (queries_from l.fn.env l.typed (map (λ q. q.now) (drop l.query-index l.queries)) ≡ queries_from l.fn.env [] (map (λ q. q.now) l.queries)) × (l.env ≡ l.fn.env)
