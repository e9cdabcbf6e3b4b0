use Rattle.repair_laws.proofs.IdentifierLaws.{enough_ids}
use Rattle.repair_laws.proofs.candidates.unused_identifiers_are_enough.Goals as goal

pub returns : goal.returns
returns c = enough_ids
