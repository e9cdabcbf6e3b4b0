use Rattle.std.proofs.Common.{◌≡◌, ◌++◌, map, take}
use Rattle.std.specs.List.{flat_map}
use Rattle.script_scopes.specs.Conjuncts.{conjuncts}
use Rattle.script_scopes.proofs.conjuncts.add_all.Given as goal

abbrev pub invariant-loop-e : goal.invariant-loop-e
invariant-loop-e l = map (λ r. r.now) l.out ≡ map (λ r. r.now) l.fn.out ++ flat_map conjuncts (take l.e-index l.exprs)
