use Rattle.xmi_text.proofs.completion.Places.{before_fault, through_mark}
use Rattle.xmi_text.proofs.laws.faults_have_places.Goals as goal

pub returns : goal.returns
returns c = record { before = before_fault; through = through_mark }
