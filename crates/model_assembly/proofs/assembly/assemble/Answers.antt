use Rattle.std.proofs.lemmas.Result.{err_from_is_err_and}
use Rattle.model_assembly.proofs.assembling.AnswerLaws.{refused_by}
use Rattle.model_assembly.proofs.assembling.ContentLaws.{model_told}
use Rattle.model_assembly.proofs.assembly.assemble.Goals as goal

pub returns-in_err-check : goal.returns-in_err-check
returns-in_err-check c =
    let p = err_from_is_err_and c.from_residual-in_err-check.result c.from_residual-in_err-check.ensures.1 in
    rw (p.1, p.2) (refused_by c.args.meta.now c.args.filed c.in_ok-model.model c.in_err-check.field-0.0 c.requires c.in_ok-model.ensures.ok c.end.ensures.kept c.in_err-check.ensures.fault)

pub returns : goal.returns
returns c = model_told c.args.meta.now c.args.filed c.in_ok-model.model c.requires c.in_ok-model.ensures.ok c.in_ok-check.ensures.ok
