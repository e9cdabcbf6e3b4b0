use Rattle.repair_laws.proofs.GoneLaws.{deleted_is_gone}
use Rattle.repair_laws.proofs.deletions.deleted_objects_are_the_least_set.Goals as goal

pub returns : goal.returns
returns c = deleted_is_gone
