use Rattle.model_assembly.proofs.assembling.CheckLaws.{breach_live}
use Rattle.model_assembly.proofs.assembly.check.invalid.Goals as goal

pub id_of-requires : goal.id_of-requires
id_of-requires c = breach_live c.args.model.now c.args.breach c.end.ensures.kept c.requires
