use Rattle.std.proofs.Common.{sym, subst}
use Rattle.qvtr_engine.specs.ScriptFile.{IsMisspelled, misspelled}
use Rattle.qvtr_engine.proofs.StopLaws.{on_stop_wider}
use Rattle.qvtr_engine.proofs.script_input.script_in.Goals as goal

pub returns-in-Err-clause-err : goal.returns-in-Err-clause-err
returns-in-Err-clause-err c =
    on_stop_wider c.script_unread.result _ _
    (λ reply h. subst (IsMisspelled c.args.path.now c.args.bytes.now) (sym h.1) (misspelled c.in-Err.error h.0 c.in-Err.ensures.fault)) c.script_unread.ensures
