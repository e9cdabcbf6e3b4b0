use Rattle.object_tables.proofs.EqualLaws.{models_equal}
use Rattle.object_tables.proofs.sameness.models_equal.Goals as goal

pub returns : goal.returns
returns c = models_equal c.args.first.now c.args.second.now c.requires c.end.ensures.kept c.end-2.ensures.kept
