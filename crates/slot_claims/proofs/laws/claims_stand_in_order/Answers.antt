use Rattle.slot_claims.proofs.CandidateLaws.{contents_of_claims, candidate_of_claims}
use Rattle.slot_claims.proofs.laws.claims_stand_in_order.Goals as goal

pub returns-clause-contents : goal.returns-clause-contents
returns-clause-contents c = contents_of_claims

pub returns-clause-candidate : goal.returns-clause-candidate
returns-clause-candidate c = candidate_of_claims
