use Rattle.xmi_text.proofs.forward.Timing.{first_marks_read, beginning_read}
use Rattle.xmi_text.proofs.document_laws.first_bytes_are_read.Goals as goal

pub returns-clause-first : goal.returns-clause-first
returns-clause-first c = first_marks_read

pub returns-clause-beginnings : goal.returns-clause-beginnings
returns-clause-beginnings c = beginning_read
