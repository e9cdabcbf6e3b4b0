use Rattle.answer_texts.specs.AskedView.{asked_view}
use Rattle.enforce_steps.specs.Endings.{output_view}
use Rattle.enforce_steps.proofs.RefusalLaws.{stops_enforcement}
use Rattle.enforce_steps.proofs.mending.ready.Goals as goal

pub returns-in-Err-clause-err : goal.returns-in-Err-clause-err
returns-in-Err-clause-err c = stops_enforcement (asked_view c.args.asked.now) (output_view c.args.output.now) c.in-Err.error c.in-Err.ensures.err
