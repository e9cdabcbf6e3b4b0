use Rattle.std.specs.Prelude.{chars}
use Rattle.qvtr_engine.proofs.JudgingLaws.{type_refused}
use Rattle.qvtr_engine.proofs.judging.resolve_script.Goals as goal

pub returns-in-Err-Fault-clause-err : goal.returns-in-Err-Fault-clause-err
returns-in-Err-Fault-clause-err c =
    type_refused c.refusal.result c.args.path.now c.args.metas.now c.args.script.now (chars c.args.target.now) c.in-Err-Fault.fault
    (rw c.in-Err-Fault.field-0-is at c.in-Err-Fault.ensures.fault) c.refusal.ensures
