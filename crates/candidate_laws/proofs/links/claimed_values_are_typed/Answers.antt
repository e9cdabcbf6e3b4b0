use Rattle.candidate_laws.proofs.DemandClaims.{claimed_value}
use Rattle.candidate_laws.proofs.links.claimed_values_are_typed.Goals as goal

pub returns : goal.returns
returns c = claimed_value
