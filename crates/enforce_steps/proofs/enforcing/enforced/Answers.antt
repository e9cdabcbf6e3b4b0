use Rattle.std.proofs.lemmas.Result.{IfOk-weaker, IfErr-weaker}
use Rattle.answer_texts.specs.Question.{Question}
use Rattle.enforce_steps.specs.Endings.{ended_of, output_view}
use Rattle.enforce_steps.proofs.AskableLaws.{target_within}
use Rattle.enforce_steps.proofs.MakingLaws.{ready_ends}
use Rattle.enforce_steps.proofs.RefusalLaws.{stops_made}
use Rattle.enforce_steps.proofs.enforcing.enforced.Goals as goal

pub get_mut-requires : goal.get_mut-requires
get_mut-requires c = target_within (record { metas = c.args.metas.now; program = c.args.program.now; models = c.args.models.now }) c.requires

pub returns-in-Ok-clause-ok : goal.returns-in-Ok-clause-ok
returns-in-Ok-clause-ok c =
    let q : Question = record { metas = c.args.metas.now; program = c.args.program.now; models = c.args.models.now } in
    let o = output_view c.args.output.now in
    IfOk-weaker c.applied.result _ _ (λ e w. ready_ends q o c.in-Ok.edits (ended_of e) c.in-Ok.ensures.ok w) c.applied.ensures.ok

pub returns-in-Ok-clause-err : goal.returns-in-Ok-clause-err
returns-in-Ok-clause-err c =
    let q : Question = record { metas = c.args.metas.now; program = c.args.program.now; models = c.args.models.now } in
    let o = output_view c.args.output.now in
    IfErr-weaker c.applied.result _ _ (λ e h. stops_made q o c.in-Ok.edits.made e c.in-Ok.ensures.ok.made.is_made h) c.applied.ensures.err

pub returns-in-Ok-clause-holds : goal.returns-in-Ok-clause-holds
returns-in-Ok-clause-holds c =
    let q : Question = record { metas = c.args.metas.now; program = c.args.program.now; models = c.args.models.now } in
    let o = output_view c.args.output.now in
    IfOk-weaker c.applied.result _ _
    (λ e w. c.enforced_targets_satisfy.ensures q o (ended_of e) c.requires (ready_ends q o c.in-Ok.edits (ended_of e) c.in-Ok.ensures.ok w)) c.applied.ensures.ok
