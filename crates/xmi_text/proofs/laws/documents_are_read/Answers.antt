use Rattle.xmi_text.proofs.forward.Spelled.{markup_spelled}
use Rattle.xmi_text.proofs.laws.documents_are_read.Goals as goal

pub returns : goal.returns
returns c = markup_spelled
