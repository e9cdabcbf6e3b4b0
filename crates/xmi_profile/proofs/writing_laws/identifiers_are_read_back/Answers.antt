use Rattle.xmi_profile.proofs.written.Words.{words_read}
use Rattle.xmi_profile.proofs.writing_laws.identifiers_are_read_back.Goals as goal

pub returns : goal.returns
returns c = words_read
