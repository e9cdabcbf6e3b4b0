use Rattle.xmi_text.proofs.forward.Spelled.{markup_spelled}
use Rattle.xmi_text.proofs.backward.Whole.{whole_markup}
use Rattle.xmi_text.proofs.laws.faultless_bytes_are_documents.Goals as goal

pub returns : goal.returns
returns c bytes = (whole_markup bytes, λ m. (markup_spelled bytes m.0 m.1).whole)
