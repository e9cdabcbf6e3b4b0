use Rattle.std.proofs.Common.{ℕ, List, map, take}
use Rattle.std.specs.Prelude.{All, Contains}
use Rattle.script_scopes.proofs.calls.refuse_call.Given as goal

abbrev pub invariant-loop-name : goal.invariant-loop-name
invariant-loop-name l = All (λ name. ¬ Contains (map {A = List ℕ × ℕ} {B = List ℕ} (λ e. e.0) l.others) name) (take l.name-index l.names)
