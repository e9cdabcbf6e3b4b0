use Rattle.std.proofs.Common.{◌≡◌, ◌++◌, map, take}
use Rattle.std.specs.List.{flat_map}
use Rattle.script_scopes.specs.CallNames.{conjunct_call}
use Rattle.script_scopes.proofs.calls.add_conjunct_calls.Given as goal

abbrev pub invariant-loop-conjunct : goal.invariant-loop-conjunct
invariant-loop-conjunct l = l.out ≡ l.fn.out ++ flat_map conjunct_call (map (λ r. r.now) (take l.conjunct-index l.conjuncts))
