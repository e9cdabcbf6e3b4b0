use Rattle.answer_texts.specs.AskedView.{asked_view}
use Rattle.enforce_steps.specs.Endings.{traced}
use Rattle.enforce_steps.specs.EnforceAnswer.{TraceAnswer}
use Rattle.qvtr_engine.specs.ExecutionAnswer.{ends}
use Rattle.qvtr_engine.proofs.LastOutcomeLaws.{refusal_told}
use Rattle.qvtr_engine.proofs.LastStepLaws.{askable}
use Rattle.qvtr_engine.proofs.last_steps.trace.Goals as goal

pub traced-requires : goal.traced-requires
traced-requires c =
    askable (asked_view c.args.asked.now) c.requires (c.variables_are_few.ensures c.args.asked.now.metas.now c.requires.well) c.texts_are_storable.ensures

pub returns-in-Ok-clause-ok : goal.returns-in-Ok-clause-ok
returns-in-Ok-clause-ok c = λ path. ends (traced c.in-Ok.text) c.in-Ok.ensures.ok

pub returns-in-Err-clause-err : goal.returns-in-Err-clause-err
returns-in-Err-clause-err c = λ path.
    refusal_told c.in-Err.error c.refusal_stop.result path (TraceAnswer (asked_view c.args.asked.now)) c.refusal_stop.ensures c.in-Err.ensures.err
