use Rattle.xmi_text.proofs.faults.FirstFault.{told_first, first_told}
use Rattle.xmi_text.proofs.first_fault_laws.told_fault_is_first.Goals as goal

pub returns : goal.returns
returns c bytes fault = (told_first bytes fault, first_told bytes fault)
