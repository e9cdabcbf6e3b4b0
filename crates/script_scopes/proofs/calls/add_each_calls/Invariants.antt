use Rattle.std.proofs.Common.{◌≡◌, ℕ, List, ◌++◌, map, take}
use Rattle.std.specs.List.{flat_map}
use Rattle.script_scopes.specs.CallNames.{relation_calls}
use Rattle.script_scopes.proofs.calls.add_each_calls.Given as goal

abbrev pub invariant-loop-relation : goal.invariant-loop-relation
invariant-loop-relation l = l.out ≡ l.fn.out ++ flat_map (relation_calls (map {A = List ℕ × ℕ} {B = List ℕ} (λ e. e.0) l.names)) (map (λ r. r.now) (take l.relation-index l.relations))
