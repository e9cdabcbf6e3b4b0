use Rattle.model_files.proofs.file_laws.json_tells_models.Goals as goal
use Rattle.model_files.proofs.read_back.Reading.{same_json}

pub returns : goal.returns
returns c = same_json
