use Rattle.demand_types.proofs.TypedLaws.{concrete_terms}
use Rattle.demand_types.proofs.laws.demanded_terms_are_concrete.Goals as goal

pub returns : goal.returns
returns c = concrete_terms
