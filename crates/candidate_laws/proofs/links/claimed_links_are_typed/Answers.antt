use Rattle.candidate_laws.proofs.DemandClaims.{claimed_pair}
use Rattle.candidate_laws.proofs.links.claimed_links_are_typed.Goals as goal

pub returns : goal.returns
returns c = claimed_pair
