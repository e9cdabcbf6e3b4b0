use Rattle.enforcement_laws.proofs.Replacing.{demands_moved}
use Rattle.enforcement_laws.proofs.targets.demand_sets_are_of_sources.Goals as goal

pub returns : goal.returns
returns c = λ metas program models m n d can target same are. demands_moved program models m n target metas can same d are
