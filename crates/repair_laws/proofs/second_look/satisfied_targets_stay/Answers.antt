use Rattle.repair_laws.proofs.SecondLook.{target_stays, target_is_same}
use Rattle.repair_laws.proofs.second_look.satisfied_targets_stay.Goals as goal

pub returns-clause-equal : goal.returns-clause-equal
returns-clause-equal c = target_stays

pub returns-clause-same : goal.returns-clause-same
returns-clause-same c = target_is_same
