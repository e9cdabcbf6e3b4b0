use Rattle.repair_laws.proofs.CandidateLaws.{demanded_is_live}
use Rattle.repair_laws.proofs.candidates.demanded_terms_are_live.Goals as goal

pub returns : goal.returns
returns c = demanded_is_live
