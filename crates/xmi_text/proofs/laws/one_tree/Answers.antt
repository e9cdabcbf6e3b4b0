use Rattle.xmi_text.proofs.reading.Staying.{one_spelled}
use Rattle.xmi_text.proofs.laws.one_tree.Goals as goal

pub returns : goal.returns
returns c = one_spelled
