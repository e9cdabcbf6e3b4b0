use Rattle.std.proofs.Common.{map, take}
use Rattle.std.specs.Prelude.{All}
use Rattle.qvtr_types.specs.ResolvedConjuncts.{reach_of}
use Rattle.qvtr_types.specs.LoneArguments.{CallsRelated}
use Rattle.qvtr_types.proofs.lone_arguments.refuse_listed.Given as goal

abbrev pub invariant-loop-conjunct : goal.invariant-loop-conjunct
invariant-loop-conjunct l = All (CallsRelated (reach_of l.scope) l.scope.variables.vars.now) (map (λ e. e.now) (take l.conjunct-index l.conjuncts))
