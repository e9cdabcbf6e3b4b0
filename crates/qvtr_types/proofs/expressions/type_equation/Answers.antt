use Rattle.std.proofs.lemmas.Result.{err_from_is_err_and}
use Rattle.ocl_types.specs.HasType.{Stands}
use Rattle.ocl_types.proofs.QueryLemmas.{err_told}
use Rattle.qvtr_types.specs.Expressions.{StandsInCondition}
use Rattle.qvtr_types.proofs.ExpressionLaws.{typing_had}
use Rattle.qvtr_types.proofs.EquationLaws.{equation_stands, equated}
use Rattle.qvtr_types.proofs.expressions.type_equation.Goals as goal

pub returns-in_err-part-clause-fault : goal.returns-in_err-part-clause-fault
returns-in_err-part-clause-fault c =
    let p = err_from_is_err_and c.from_residual-in_err-part.result c.from_residual-in_err-part.ensures.1 in
    err_told c.from_residual-in_err-part.result p.0 _ (StandsInCondition c.args.env.now c.args.conjunct.now) (λ f. Stands c.args.env.now c.args.e.now f) p.1 p.2
    (λ f h. StandsInCondition.typing (equation_stands c.args.env.now f c.args.conjunct.now c.requires.0 c.args.e.now c.requires.1 h))
    c.in_err-part.ensures.fault

pub returns-clause-equated : goal.returns-clause-equated
returns-clause-equated c = λ v is.
    let condition = c.in_ok-condition.ensures.is in
    equated c.args.env.now c.args.conjunct.now v c.args.e.now condition.has.part c.in_ok-part.part c.into_tree.result (λ q r. c.one_type_is_had.ensures c.args.e.now q r) is condition.has.has
    (typing_had c.args.env.now c.args.e.now c.in_ok-part.part c.into_tree.result c.into_tree.ensures c.in_ok-part.ensures.typed c.in_ok-part.ensures.tree)
    c.in_ok-part.ensures.typed
