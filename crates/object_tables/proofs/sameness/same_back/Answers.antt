use Rattle.object_tables.proofs.SamenessLemmas.{same_back}
use Rattle.object_tables.proofs.sameness.same_back.Goals as goal

pub returns : goal.returns
returns c = same_back c.args.first.now c.args.second.now c.end.ensures.kept c.requires
