use Rattle.repair_laws.proofs.KeyedLaws.{tells_by_keys}
use Rattle.repair_laws.proofs.keys.keys_tell_objects_apart.Goals as goal

pub returns : goal.returns
returns c = λ metas program m formed enforceable desc well. tells_by_keys metas program formed enforceable m desc well
