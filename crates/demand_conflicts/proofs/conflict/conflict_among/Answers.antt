use Rattle.demand_conflicts.proofs.LiftLaws.{lifted}
use Rattle.demand_conflicts.proofs.conflict.conflict_among.Goals as goal

pub returns : goal.returns
returns c = lifted c.args.meta.now c.args.demands.now c.numbered_conflict.result c.numbered_conflict.ensures
