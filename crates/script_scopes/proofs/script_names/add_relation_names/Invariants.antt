use Rattle.std.proofs.Common.{◌≡◌, ◌++◌, map, take}
use Rattle.script_scopes.proofs.script_names.add_relation_names.Given as goal

abbrev pub invariant-loop-relation : goal.invariant-loop-relation
invariant-loop-relation l = l.out ≡ l.fn.out ++ map (λ r. r.name.text) (map (λ r. r.now) (take l.relation-index l.relations))
