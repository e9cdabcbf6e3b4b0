use Rattle.std.proofs.Common.{◌≡◌, ◌++◌, map, take}
use Rattle.std.specs.List.{flat_map}
use Rattle.script_scopes.specs.Conjuncts.{behind}
use Rattle.script_scopes.proofs.conjuncts.+conjuncts.Given as goal

abbrev pub invariant-add_behind-loop-link : goal.invariant-add_behind-loop-link
invariant-add_behind-loop-link l = map (λ r. r.now) l.out ≡ map (λ r. r.now) l.fn.out ++ flat_map (λ k. (behind k).conjuncts) (take l.link-index l.links)
