use Rattle.xmi_profile.proofs.written.Accepted.{not_refused}
use Rattle.xmi_profile.proofs.writing_laws.written_models_are_accepted.Goals as goal

pub returns : goal.returns
returns c m fault w = not_refused m w fault
