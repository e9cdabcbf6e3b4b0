use Rattle.model_files.proofs.file_laws.written_json_is_read.Goals as goal
use Rattle.model_files.proofs.read_back.Reading.{json_read, json_read_alone}

pub returns-clause-read : goal.returns-clause-read
returns-clause-read c = json_read

pub returns-clause-only : goal.returns-clause-only
returns-clause-only c m k w x = json_read_alone m w k x
