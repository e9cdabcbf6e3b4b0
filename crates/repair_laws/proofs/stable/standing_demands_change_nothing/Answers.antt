use Rattle.repair_laws.proofs.UnchangedLaws.{nothing_changes}
use Rattle.repair_laws.proofs.stable.standing_demands_change_nothing.Goals as goal

pub returns : goal.returns
returns c = λ program m demands valid needed have stand. nothing_changes program m valid demands needed have stand
