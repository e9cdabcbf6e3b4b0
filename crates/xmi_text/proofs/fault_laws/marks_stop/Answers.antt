use Rattle.xmi_text.proofs.forward.Stopping.{marks_stop}
use Rattle.xmi_text.proofs.forward.Deepest.{limit_marks}
use Rattle.xmi_text.proofs.fault_laws.marks_stop.Goals as goal

pub returns-clause-behind : goal.returns-clause-behind
returns-clause-behind c = marks_stop

pub returns-clause-deep : goal.returns-clause-deep
returns-clause-deep c = limit_marks
