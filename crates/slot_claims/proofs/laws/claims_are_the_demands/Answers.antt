use Rattle.slot_claims.proofs.DemandLaws.{claims_are_the_demands}
use Rattle.slot_claims.proofs.laws.claims_are_the_demands.Goals as goal

pub returns : goal.returns
returns c = claims_are_the_demands
