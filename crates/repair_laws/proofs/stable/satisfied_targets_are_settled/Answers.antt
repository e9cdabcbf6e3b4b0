use Rattle.repair_laws.proofs.SettledLaws.{satisfied_is_settled}
use Rattle.repair_laws.proofs.stable.satisfied_targets_are_settled.Goals as goal

pub returns : goal.returns
returns c = satisfied_is_settled
