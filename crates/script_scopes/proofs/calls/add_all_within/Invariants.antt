use Rattle.std.proofs.Common.{◌≡◌, ℕ, List, ◌++◌, map, take}
use Rattle.std.specs.List.{flat_map}
use Rattle.script_scopes.specs.CallNames.{called_within}
use Rattle.script_scopes.proofs.calls.add_all_within.Given as goal

abbrev pub invariant-loop-conjunct : goal.invariant-loop-conjunct
invariant-loop-conjunct l = l.out ≡ l.fn.out ++ flat_map (called_within (map {A = List ℕ × ℕ} {B = List ℕ} (λ e. e.0) l.relations)) (map (λ r. r.now) (take l.conjunct-index l.conjuncts))
