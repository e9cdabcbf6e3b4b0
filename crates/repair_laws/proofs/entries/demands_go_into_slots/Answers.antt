use Rattle.repair_laws.proofs.TypedData.{typed_data}
use Rattle.repair_laws.proofs.EnforcedReading.{all_go}
use Rattle.repair_laws.proofs.entries.demands_go_into_slots.Goals as goal

pub returns : goal.returns
returns c = λ metas program sources m entries are. all_go metas program sources m entries are (typed_data metas program sources are.evaluable are.enforceable)
