use Rattle.std.proofs.Common.{◌≡◌, ℕ, List, map, take}
use Rattle.std.specs.List.{flat_map}
use Rattle.script_scopes.specs.CallRows.{conjunct_numbers}
use Rattle.script_scopes.proofs.strata.numbers_of.Given as goal

abbrev pub invariant-loop-conjunct : goal.invariant-loop-conjunct
invariant-loop-conjunct l = l.out ≡ flat_map (conjunct_numbers (map {A = List ℕ × ℕ} {B = List ℕ} (λ e. e.0) l.names)) (map (λ r. r.now) (take l.conjunct-index l.conjuncts))
