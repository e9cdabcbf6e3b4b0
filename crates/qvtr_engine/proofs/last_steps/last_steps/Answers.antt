use Rattle.std.proofs.lemmas.Result.{IfOk-weaker, IfErr-weaker}
use Rattle.answer_texts.specs.Question.{Question}
use Rattle.qvtr_engine.proofs.LastOutcomeLaws.{verdict_mended}
use Rattle.qvtr_engine.proofs.last_steps.last_steps.Goals as goal

pub judge-requires-clause-formed : goal.judge-requires-clause-formed
judge-requires-clause-formed c = (c.args.metas.now, c.requires.read.well)

pub returns-in-Check-clause-ok : goal.returns-in-Check-clause-ok
returns-in-Check-clause-ok c = rw c.in-Check.is c.judge.ensures.ok

pub returns-in-Check-clause-err : goal.returns-in-Check-clause-err
returns-in-Check-clause-err c = rw c.in-Check.is c.judge.ensures.err

pub returns-in-Enforce-clause-ok : goal.returns-in-Enforce-clause-ok
returns-in-Enforce-clause-ok c = rw c.in-Enforce.is c.enforce.ensures.ok

pub returns-in-Enforce-clause-err : goal.returns-in-Enforce-clause-err
returns-in-Enforce-clause-err c = rw c.in-Enforce.is c.enforce.ensures.err

pub returns-in-Check-clause-mended : goal.returns-in-Check-clause-mended
returns-in-Check-clause-mended c =
    let q : Question = record { metas = c.args.metas.now; program = c.args.program.now; models = c.args.models.now } in
    IfOk-weaker c.judge.result _ _ (λ o a. verdict_mended c.args.mode c.args.output.now.path.now q o a) c.judge.ensures.ok

pub returns-in-Trace-clause-ok : goal.returns-in-Trace-clause-ok
returns-in-Trace-clause-ok c = rw c.in-Trace.is (IfOk-weaker c.trace.result _ _ (λ o told. told c.args.output.now.path.now) c.trace.ensures.ok)

pub returns-in-Trace-clause-mended : goal.returns-in-Trace-clause-mended
returns-in-Trace-clause-mended c = rw c.in-Trace.is (IfOk-weaker c.trace.result _ _ (λ o kept. kept c.args.output.now.path.now) c.trace.ensures.mended)

pub returns-in-Trace-clause-err : goal.returns-in-Trace-clause-err
returns-in-Trace-clause-err c = rw c.in-Trace.is (IfErr-weaker c.trace.result _ _ (λ stop told. told c.args.output.now.path.now) c.trace.ensures.err)
