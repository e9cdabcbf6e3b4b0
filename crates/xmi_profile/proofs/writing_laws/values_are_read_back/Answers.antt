use Rattle.xmi_profile.proofs.written.Values.{value_read}
use Rattle.xmi_profile.proofs.writing_laws.values_are_read_back.Goals as goal

pub returns : goal.returns
returns c meta type v well typed held = value_read meta well type v typed held
