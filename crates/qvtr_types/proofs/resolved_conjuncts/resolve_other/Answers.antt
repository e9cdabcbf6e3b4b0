use Rattle.std.proofs.Common.{◌≡◌, ℕ, List, Bor, ap}
use Rattle.std.specs.Option.{option_map}
use Rattle.std.proofs.lemmas.Result.{err_from_is_err_and}
use Rattle.mof_metamodel.specs.declared.text.Text.{Text}
use Rattle.qv_syntax.specs.declared.expr.Expr.{Expr}
use Rattle.ocl_types.proofs.QueryLemmas.{err_told}
use Rattle.qvtr_types.specs.Expressions.{StandsInCondition}
use Rattle.qvtr_types.specs.ResolvedConjuncts.{ClauseReach, reach_of, IsResolved, StandsInConjunct}
use Rattle.qvtr_types.proofs.resolved_conjuncts.resolve_other.Goals as goal

pub returns-in_err-tree-in-None-clause-fault : goal.returns-in_err-tree-in-None-clause-fault
returns-in_err-tree-in-None-clause-fault c =
    let reach : ClauseReach = reach_of c.args.scope.now in
    let p = err_from_is_err_and c.from_residual.result c.from_residual.ensures.1 in
    err_told c.from_residual.result p.0 _ (StandsInConjunct reach c.args.conjunct.now) (StandsInCondition reach.env c.args.conjunct.now) p.1 p.2
    (λ f h. StandsInConjunct.condition c.requires.uncalled h) c.in_err-tree-in-None.ensures.fault

pub returns-in_ok-tree-in-None-clause-is : goal.returns-in_ok-tree-in-None-clause-is
returns-in_ok-tree-in-None-clause-is c =
    IsResolved.condition c.in_ok-tree-in-None.tree c.requires.uncalled
    (ap (option_map {T = Bor Text × Bor Expr} {U = List ℕ × Expr} (λ p. (p.0.now, p.1.now))) c.in-None.is) c.in_ok-tree-in-None.ensures.is
