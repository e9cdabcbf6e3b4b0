use Rattle.xmi_text.proofs.faults.Prefixes.{begins_goes_on}
use Rattle.xmi_text.proofs.backward.Whole.{goes_on_begins}
use Rattle.xmi_text.proofs.laws.documents_begin.Goals as goal

pub returns : goal.returns
returns c bytes = (begins_goes_on bytes, goes_on_begins bytes)
