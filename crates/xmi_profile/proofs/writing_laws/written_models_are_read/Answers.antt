use Rattle.xmi_profile.proofs.written.Reading.{written_read, read_alone}
use Rattle.xmi_profile.proofs.writing_laws.written_models_are_read.Goals as goal

pub returns-clause-read : goal.returns-clause-read
returns-clause-read c = written_read

pub returns-clause-only : goal.returns-clause-only
returns-clause-only c = read_alone
