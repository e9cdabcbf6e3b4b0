use Rattle.qvtr_engine.proofs.TargetLaws.{same_characters}
use Rattle.qvtr_engine.proofs.check_request.is_same_name.Goals as goal

pub returns : goal.returns
returns c = same_characters c.args.name.now c.args.other.now c.utf8.name c.utf8.other c.eq.result c.eq.ensures
