use Rattle.repair_semantics.proofs.EntryOrderLaws.{entries_once}
use Rattle.repair_semantics.proofs.laws.entries_stand_in_one_order.Goals as goal

pub returns : goal.returns
returns c = entries_once
