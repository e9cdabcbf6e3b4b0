use Rattle.xmi_text.proofs.completion.Ending.{only_open}
use Rattle.xmi_text.proofs.backward.Whole.{completed_markup}
use Rattle.xmi_text.proofs.laws.completions_end.Goals as goal

pub returns : goal.returns
returns c = record { completed = completed_markup; only = only_open }
