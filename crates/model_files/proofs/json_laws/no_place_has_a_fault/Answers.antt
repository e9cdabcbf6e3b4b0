use Rattle.model_files.proofs.JsonLinkLaws.{nothing_told}
use Rattle.model_files.proofs.json_laws.no_place_has_a_fault.Goals as goal

pub returns : goal.returns
returns c = nothing_told
