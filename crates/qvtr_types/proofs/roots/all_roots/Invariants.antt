use Rattle.std.proofs.Common.{map, take}
use Rattle.qvtr_types.specs.RootVariables.{AreRootsOf}
use Rattle.qvtr_types.proofs.roots.all_roots.Given as goal

abbrev pub invariant-loop-place : goal.invariant-loop-place
invariant-loop-place l = AreRootsOf (map (λ r. r.now) (take l.place l.relations)) (take l.place l.vars) (map (map (λ r. r.now)) l.out)
