use Rattle.candidate_laws.proofs.DemandClaims.{claimed_containers}
use Rattle.candidate_laws.proofs.links.containers_are_claimed_once.Goals as goal

pub returns : goal.returns
returns c = claimed_containers
