use Rattle.std.proofs.Common.{◌≡◌, ℕ, List, [], map, take}
use Rattle.qvtr_types.specs.Equations.{equation_test, given_after}
use Rattle.qvtr_types.specs.ResolvedConjuncts.{reach_of, AreResolved}
use Rattle.qvtr_types.proofs.resolved_conjuncts.resolve_listed.Given as goal

abbrev pub invariant-loop-conjunct : goal.invariant-loop-conjunct
invariant-loop-conjunct l =
    (map {A = List ℕ × ℕ} {B = List ℕ} (λ e. e.0) l.met ≡ given_after [] (map (λ e. e.now) (take l.conjunct-index l.conjuncts)))
    × AreResolved (reach_of l.scope) (equation_test l.scope.variables l.wanted) [] (map (λ e. e.now) (take l.conjunct-index l.conjuncts)) l.out
