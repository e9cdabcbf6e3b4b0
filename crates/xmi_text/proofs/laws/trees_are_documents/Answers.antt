use Rattle.xmi_text.proofs.backward.Whole.{spelled_markup}
use Rattle.xmi_text.proofs.laws.trees_are_documents.Goals as goal

pub returns : goal.returns
returns c = spelled_markup
