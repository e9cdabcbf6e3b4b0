use Rattle.candidate_laws.proofs.DemandClaims.{claimed_back}
use Rattle.candidate_laws.proofs.links.links_are_claimed_at_both_ends.Goals as goal

pub returns : goal.returns
returns c = claimed_back
