use Rattle.std.proofs.Common.{◌≡◌, ℕ, List, map, take}
use Rattle.script_scopes.specs.CallRows.{where_rows}
use Rattle.script_scopes.proofs.strata.where_rows.Given as goal

abbrev pub invariant-loop-relation : goal.invariant-loop-relation
invariant-loop-relation l = l.rows ≡ where_rows (map {A = List ℕ × ℕ} {B = List ℕ} (λ e. e.0) l.names) (map (λ r. r.now) (take l.relation-index l.relations))
