use Rattle.std.proofs.Common.{◌≡◌, ℕ, List, map, take}
use Rattle.script_scopes.specs.ScriptNames.{each_once as distinct}
use Rattle.script_scopes.proofs.distinct.each_once_listed.Given as goal

abbrev pub invariant-loop-name : goal.invariant-loop-name
invariant-loop-name l = record {
  met : map {A = List ℕ × ℕ} {B = List ℕ} (λ e. e.0) l.met ≡ l.out;
  once : l.out ≡ distinct (take l.name-index l.names);
}
