use Rattle.xmi_text.proofs.reading.Staying.{fault_stays, fault_ends, marks_end}
use Rattle.xmi_text.proofs.laws.faults_stay.Goals as goal

pub returns : goal.returns
returns c = record { fault = fault_stays; ended = fault_ends; marks = marks_end }
