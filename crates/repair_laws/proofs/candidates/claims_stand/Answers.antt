use Rattle.repair_laws.proofs.CandidateLaws.{claims_stand}
use Rattle.repair_laws.proofs.candidates.claims_stand.Goals as goal

pub returns : goal.returns
returns c = claims_stand
