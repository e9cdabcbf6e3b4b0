use Rattle.std.proofs.Common.{◌≡◌, ◌++◌, map, take}
use Rattle.script_scopes.proofs.script_names.add_query_names.Given as goal

abbrev pub invariant-loop-query : goal.invariant-loop-query
invariant-loop-query l = l.out ≡ l.fn.out ++ map (λ r. r.name.text) (map (λ r. r.now) (take l.query-index l.queries))
