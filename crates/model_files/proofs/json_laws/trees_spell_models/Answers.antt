use Rattle.model_files.proofs.JsonLinkLaws.{model_spelled}
use Rattle.model_files.proofs.json_laws.trees_spell_models.Goals as goal

pub returns : goal.returns
returns c = model_spelled
