use Rattle.repair_laws.proofs.DemandLaws.{demand_stands}
use Rattle.repair_laws.proofs.candidates.demands_stand.Goals as goal

pub returns : goal.returns
returns c = demand_stands
