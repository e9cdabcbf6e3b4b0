use Rattle.std.proofs.lemmas.Result.{IfOk-weaker, IfErr-weaker}
use Rattle.enforce_steps.specs.Endings.{ended_of, output_view}
use Rattle.enforce_steps.proofs.MakingLaws.{fits, shallow, too_long}
use Rattle.enforce_steps.proofs.mending.written.Goals as goal

pub model_text-requires-clause-depth : goal.model_text-requires-clause-depth
model_text-requires-clause-depth c = shallow c.args.made.now c.requires

pub returns-in-Ok-clause-ok : goal.returns-in-Ok-clause-ok
returns-in-Ok-clause-ok c =
    IfOk-weaker c.fitted.result _ _
    (λ e f. fits (output_view c.args.output.now) c.args.made.now c.args.report c.in-Ok.bytes (ended_of e) c.requires c.models_are_held.ensures c.in-Ok.ensures f) c.fitted.ensures.ok

pub returns-in-Ok-clause-err : goal.returns-in-Ok-clause-err
returns-in-Ok-clause-err c =
    IfErr-weaker c.fitted.result _ _ (λ e h. too_long (output_view c.args.output.now) c.args.made.now c.in-Ok.bytes e c.requires c.in-Ok.ensures h) c.fitted.ensures.err
