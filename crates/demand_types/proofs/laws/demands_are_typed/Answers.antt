use Rattle.demand_types.proofs.TypedLaws.{typed_demands}
use Rattle.demand_types.proofs.laws.demands_are_typed.Goals as goal

pub returns : goal.returns
returns c = typed_demands
