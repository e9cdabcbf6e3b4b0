use Rattle.std.proofs.Common.{ℕ, List, map, take}
use Rattle.std.specs.Prelude.{All}
use Rattle.script_scopes.specs.Refusals.{HasNamesInOrder}
use Rattle.script_scopes.proofs.name_faults.refuse_each.Given as goal

abbrev pub invariant-loop-relation : goal.invariant-loop-relation
invariant-loop-relation l = All (HasNamesInOrder (map {A = List ℕ × ℕ} {B = List ℕ} (λ e. e.0) l.models)) (map (λ r. r.now) (take l.relation-index l.relations))
