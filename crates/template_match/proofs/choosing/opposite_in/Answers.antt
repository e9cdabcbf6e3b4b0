use Rattle.template_match.proofs.HolderLaws.{placed_known}
use Rattle.template_match.proofs.choosing.opposite_in.Goals as goal

pub opposite-requires : goal.opposite-requires
opposite-requires c = placed_known c.args.meta.now c.args.class.0 c.args.prop.0 _ c.in-Some.ensures
