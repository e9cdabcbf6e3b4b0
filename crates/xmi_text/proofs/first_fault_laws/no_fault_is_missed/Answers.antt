use Rattle.xmi_text.proofs.faults.FirstFault.{never_missed}
use Rattle.xmi_text.proofs.first_fault_laws.no_fault_is_missed.Goals as goal

pub returns : goal.returns
returns c bytes fault kind n = never_missed kind bytes fault n
