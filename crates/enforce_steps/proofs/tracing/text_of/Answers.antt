use Rattle.std.proofs.Common.{◌∙◌, ap}
use Rattle.std.proofs.lemmas.Result.{IfOk-weaker}
use Rattle.trace_log.specs.TraceData.{text_of_trace}
use Rattle.answer_texts.specs.AskedView.{asked_view}
use Rattle.enforce_steps.proofs.AskableLaws.{can_be_enforced}
use Rattle.enforce_steps.proofs.tracing.text_of.Goals as goal

pub trace_of-requires-clause-premises : goal.trace_of-requires-clause-premises
trace_of-requires-clause-premises c = can_be_enforced (asked_view c.args.asked.now) c.requires.askable c.requires.demanded.enforceable

pub returns : goal.returns
returns c = IfOk-weaker c.trace_text-text.result _ _ (λ bytes is. is ∙ ap text_of_trace c.in_ok-trace.ensures) c.trace_text-text.ensures.text
