use Rattle.std.proofs.Common.{ℕ, List, map, take}
use Rattle.std.specs.Prelude.{All, Contains}
use Rattle.script_scopes.proofs.name_faults.refuse_unknown.Given as goal

abbrev pub invariant-loop-name : goal.invariant-loop-name
invariant-loop-name l = All (Contains (map {A = List ℕ × ℕ} {B = List ℕ} (λ e. e.0) l.known)) (take l.name-index l.names)
