use Rattle.std.proofs.Common.{◌≡◌, ◌++◌, map, take}
use Rattle.std.specs.List.{flat_map}
use Rattle.script_scopes.specs.ModelLists.{conjunct_models}
use Rattle.script_scopes.proofs.object_models.add_conjuncts_models.Given as goal

abbrev pub invariant-loop-conjunct : goal.invariant-loop-conjunct
invariant-loop-conjunct l = l.out ≡ l.fn.out ++ flat_map (conjunct_models (map (λ e. (e.0, e.1.now)) l.relations)) (map (λ e. e.now) (take l.conjunct-index l.conjuncts))
