use Rattle.xmi_text.proofs.forward.Placed.{told_document}
use Rattle.xmi_text.proofs.document_laws.marks_tell_documents.Goals as goal

pub returns : goal.returns
returns c d i = told_document d i.root
