use Rattle.xmi_text.proofs.faults.Found.{found}
use Rattle.xmi_text.proofs.fault_laws.faults_stand.Goals as goal

pub returns : goal.returns
returns c = found
