use Rattle.repair_laws.proofs.TypedData.{typed_data}
use Rattle.repair_laws.proofs.EnforcedReading.{enforced_reads, enforced_stand}
use Rattle.repair_laws.proofs.readings.enforced_models_are_readings.Goals as goal

pub returns-clause-reads : goal.returns-clause-reads
returns-clause-reads c = λ metas program sources m entries are. enforced_reads metas program sources m entries are (typed_data metas program sources are.evaluable are.enforceable)

pub returns-clause-stand : goal.returns-clause-stand
returns-clause-stand c = λ metas program sources m entries are. enforced_stand metas program sources m entries are (typed_data metas program sources are.evaluable are.enforceable)
