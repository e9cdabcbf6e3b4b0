use Rattle.xmi_text.proofs.forward.Timing.{marks_read}
use Rattle.xmi_text.proofs.document_laws.marks_have_places.Goals as goal

pub returns : goal.returns
returns c = marks_read
