use Rattle.xmi_profile.proofs.FaultLaws.{all_first}
use Rattle.xmi_profile.proofs.fault_laws.first_faults_stand.Goals as goal

pub returns : goal.returns
returns c = all_first
