use Rattle.repair_laws.proofs.SameReadings.{second_changes_nothing}
use Rattle.repair_laws.proofs.stable.the_second_time_nothing_changes.Goals as goal

pub returns : goal.returns
returns c = second_changes_nothing
