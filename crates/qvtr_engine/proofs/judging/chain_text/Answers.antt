use Rattle.std.proofs.lemmas.Result.{IfOk-weaker}
use Rattle.relation_calls.specs.Names.{chain_named}
use Rattle.answer_texts.specs.AskedView.{asked_view}
use Rattle.qvtr_engine.proofs.JudgingLaws.{told_cycle, told_deep}
use Rattle.qvtr_engine.proofs.judging.chain_text.Goals as goal

pub returns-in-Cycle : goal.returns-in-Cycle
returns-in-Cycle c =
    IfOk-weaker c.cycle_text.result _ _
    (λ text is. told_cycle (asked_view c.args.asked.now) (chain_named c.in-Cycle.chain) text (rw c.in-Cycle.is at c.requires) (rw c.as_slice.ensures at is)) c.cycle_text.ensures

pub returns-in-Deep : goal.returns-in-Deep
returns-in-Deep c =
    IfOk-weaker c.deep_text.result _ _
    (λ text is. told_deep (asked_view c.args.asked.now) (chain_named c.in-Deep.chain) text (rw c.in-Deep.is at c.requires) (rw c.as_slice-in-Deep.ensures at is)) c.deep_text.ensures
