use Rattle.model_files.proofs.JsonLinkLaws.{fault_told}
use Rattle.model_files.proofs.json_laws.trees_tell_faults.Goals as goal

pub returns : goal.returns
returns c = fault_told
