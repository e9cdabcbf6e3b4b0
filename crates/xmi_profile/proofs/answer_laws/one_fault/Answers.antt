use Rattle.xmi_profile.proofs.PlaceFaults.{one_first_at}
use Rattle.xmi_profile.proofs.SpotFaults.{one_first_by}
use Rattle.xmi_profile.proofs.answer_laws.one_fault.Goals as goal

pub returns-clause-places : goal.returns-clause-places
returns-clause-places c = one_first_at

pub returns-clause-references : goal.returns-clause-references
returns-clause-references c = one_first_by
