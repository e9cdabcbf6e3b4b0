use Rattle.xmi_text.proofs.faults.FirstFault.{outside_documents}
use Rattle.xmi_text.proofs.first_fault_laws.documents_have_no_fault.Goals as goal

pub returns : goal.returns
returns c bytes tree kind n = outside_documents kind bytes tree n
