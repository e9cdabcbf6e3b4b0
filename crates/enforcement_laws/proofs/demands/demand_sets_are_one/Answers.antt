use Rattle.enforcement_laws.proofs.Repairing.{one_set}
use Rattle.enforcement_laws.proofs.demands.demand_sets_are_one.Goals as goal

pub returns : goal.returns
returns c = one_set
