use Rattle.qvtr_engine.proofs.StopLaws.{on_stop_wider}
use Rattle.qvtr_engine.proofs.script_input.script_unread.Goals as goal

pub returns-in_default : goal.returns-in_default
returns-in_default c = on_stop_wider c.script_stop.result _ _ (λ reply e. (c.in_default.not-NoMemory, e)) c.script_stop.ensures
