use Rattle.std.proofs.Common.{◌≡◌, ◌++◌, map, take}
use Rattle.std.specs.List.{flat_map}
use Rattle.script_scopes.specs.Usages.{calls_in}
use Rattle.script_scopes.proofs.calls.add_query_calls.Given as goal

abbrev pub invariant-loop-query : goal.invariant-loop-query
invariant-loop-query l = l.out ≡ l.fn.out ++ flat_map (λ q. calls_in q.body) (map (λ q. q.now) (take l.query-index l.queries))
