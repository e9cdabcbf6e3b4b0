use Rattle.std.proofs.Common.{sym, subst}
use Rattle.std.proofs.lemmas.Result.{IfOk-weaker, IfErr-weaker}
use Rattle.answer_texts.specs.AskedView.{asked_view}
use Rattle.enforce_steps.specs.declared.cause.StepError.{StepError}
use Rattle.enforce_steps.specs.Endings.{OnRefusal, traced}
use Rattle.enforce_steps.specs.EnforceAnswer.{TraceAnswer, told}
use Rattle.enforce_steps.proofs.RefusalLaws.{stops_trace}
use Rattle.enforce_steps.proofs.tracing.traced.Goals as goal

pub returns-in-Ok-clause-ok : goal.returns-in-Ok-clause-ok
returns-in-Ok-clause-ok c =
    let q = asked_view c.args.asked.now in
    IfOk-weaker c.told-text.result _ _ (λ text is. subst (λ t. TraceAnswer q (traced t)) (sym is) (told c.in-Ok.found c.in-Ok.ensures.ok)) c.told-text.ensures.ok

pub returns-in-Ok-clause-err : goal.returns-in-Ok-clause-err
returns-in-Ok-clause-err c =
    let q = asked_view c.args.asked.now in
    IfErr-weaker c.told-text.result _ _ (λ e is. subst (λ (x : StepError). OnRefusal x (TraceAnswer q)) (sym is) tt) c.told-text.ensures.err

pub returns-in-Err-clause-err : goal.returns-in-Err-clause-err
returns-in-Err-clause-err c = stops_trace (asked_view c.args.asked.now) c.in-Err.error c.in-Err.ensures.err
