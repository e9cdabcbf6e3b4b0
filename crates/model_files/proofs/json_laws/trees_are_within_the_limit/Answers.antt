use Rattle.model_files.proofs.JsonLinkLaws.{few_objects}
use Rattle.model_files.proofs.json_laws.trees_are_within_the_limit.Goals as goal

pub returns : goal.returns
returns c = few_objects
