use Rattle.xmi_text.proofs.forward.Spelled.{markup_spelled}
use Rattle.xmi_text.proofs.reading.Staying.{one_spelled}
use Rattle.xmi_text.proofs.document_laws.one_document_tree.Goals as goal

pub returns : goal.returns
returns c bytes first second p q = one_spelled bytes first second (markup_spelled bytes first p) (markup_spelled bytes second q)
