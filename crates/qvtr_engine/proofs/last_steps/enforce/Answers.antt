use Rattle.std.proofs.Common.{◌≡◌, subst}
use Rattle.answer_texts.specs.Question.{Question}
use Rattle.enforce_steps.specs.Endings.{ended_of, output_view, OnRefusal}
use Rattle.enforce_steps.specs.EnforceAnswer.{EnforceAnswer}
use Rattle.qvtr_engine.specs.ExecutionAnswer.{output_at}
use Rattle.qvtr_engine.proofs.LastOutcomeLaws.{refusal_told}
use Rattle.qvtr_engine.proofs.LastStepLaws.{askable, ended_reply}
use Rattle.qvtr_engine.proofs.last_steps.enforce.Goals as goal

pub enforced-requires : goal.enforced-requires
enforced-requires c =
    let q : Question = record { metas = c.args.metas.now; program = c.args.program.now; models = c.args.models.now } in
    askable q c.requires.read (c.variables_are_few.ensures c.args.metas.now c.requires.read.well) c.texts_are_storable.ensures

pub returns-in-Ok-clause-ok : goal.returns-in-Ok-clause-ok
returns-in-Ok-clause-ok c =
    let q : Question = record { metas = c.args.metas.now; program = c.args.program.now; models = c.args.models.now } in
    let o = c.args.output.now in
    let same : output_view o ≡ output_at o.form o.path.now = λ i. record { form = o.form; path = o.path.now; limit = c.requires.limit i } in
    ended_reply o.path.now (EnforceAnswer q (output_at o.form o.path.now)) (ended_of c.in-Ok.end) c.enforced_outcome.result c.enforced_outcome.ensures.reply
    (subst (λ x. EnforceAnswer q x (ended_of c.in-Ok.end)) same c.in-Ok.ensures.ok)

pub returns-in-Err-clause-err : goal.returns-in-Err-clause-err
returns-in-Err-clause-err c =
    let q : Question = record { metas = c.args.metas.now; program = c.args.program.now; models = c.args.models.now } in
    let o = c.args.output.now in
    let same : output_view o ≡ output_at o.form o.path.now = λ i. record { form = o.form; path = o.path.now; limit = c.requires.limit i } in
    refusal_told c.in-Err.error c.refusal_stop.result o.path.now (EnforceAnswer q (output_at o.form o.path.now)) c.refusal_stop.ensures
    (subst (λ x. OnRefusal c.in-Err.error (EnforceAnswer q x)) same c.in-Err.ensures.err)
