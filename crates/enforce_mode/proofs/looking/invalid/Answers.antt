use Rattle.enforce_mode.proofs.LookingLaws.{breach_live}
use Rattle.enforce_mode.proofs.looking.invalid.Goals as goal

pub id_of-requires : goal.id_of-requires
id_of-requires c = breach_live c.args.made.now c.args.breach c.end.ensures.kept c.requires
