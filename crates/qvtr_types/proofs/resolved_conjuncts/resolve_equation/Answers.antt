use Rattle.std.proofs.Common.{◌≡◌, ℕ, List, refl, sym, subst}
use Rattle.std.specs.Prelude.{Option, Some}
use Rattle.std.proofs.lemmas.Result.{err_from_is_err_and}
use Rattle.qv_syntax.specs.declared.expr.Expr.{Expr}
use Rattle.qv_syntax.specs.declared.program.Conj.TheVariants as conjs
use Rattle.ocl_types.proofs.QueryLemmas.{err_told}
use Rattle.qvtr_types.specs.Expressions.{StandsInCondition}
use Rattle.qvtr_types.specs.ResolvedConjuncts.{ClauseReach, reach_of, IsResolved, StandsInConjunct}
use Rattle.qvtr_types.proofs.resolved_conjuncts.resolve_equation.Goals as goal

pub returns-in_err-tree-clause-fault : goal.returns-in_err-tree-clause-fault
returns-in_err-tree-clause-fault c =
    let reach : ClauseReach = reach_of c.args.scope.now in
    let p = err_from_is_err_and c.from_residual.result c.from_residual.ensures.1 in
    err_told c.from_residual.result p.0 _ (StandsInConjunct reach c.args.conjunct.now) (StandsInCondition reach.env c.args.conjunct.now) p.1 p.2
    (λ f h. StandsInConjunct.condition c.requires.uncalled h) c.in_err-tree.ensures.fault

pub returns-2-clause-is : goal.returns-2-clause-is
returns-2-clause-is c =
    let said : Option (List ℕ × Expr) = Some (c.args.said.0.now, c.args.said.1.now) in
    let (whole, boolean) = c.in_ok-tree.ensures.condition in
    subst (λ (n : ℕ). IsResolved (reach_of c.args.scope.now) said c.args.conjunct.now (conjs.Equation n c.in_ok-tree.tree)) (sym c.in-Ok-or_drop.ensures.number)
    (IsResolved.equation c.args.said.0.now c.args.said.1.now c.in_ok-tree.tree whole c.requires.uncalled refl c.in_ok-tree.ensures.is boolean)
