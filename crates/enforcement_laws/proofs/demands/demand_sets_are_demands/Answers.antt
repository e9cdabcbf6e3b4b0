use Rattle.enforcement_laws.proofs.Repairing.{are_demands}
use Rattle.enforcement_laws.proofs.demands.demand_sets_are_demands.Goals as goal

pub returns : goal.returns
returns c = λ metas program models m d can target are. are_demands metas program models m d can target are
