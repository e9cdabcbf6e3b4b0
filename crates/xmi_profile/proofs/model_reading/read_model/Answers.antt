use Rattle.xmi_profile.proofs.AnsweredLaws.{spelled}
use Rattle.xmi_profile.proofs.model_reading.read_model.Goals as goal

pub returns : goal.returns
returns c = spelled c.args.meta.now c.args.externs c.args.bytes.now c.in_ok-filed.filed c.in_ok-filed.ensures c.in_ok-model.model c.in_ok-model.ensures
