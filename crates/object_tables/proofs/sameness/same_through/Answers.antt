use Rattle.object_tables.proofs.SamenessLemmas.{same_through}
use Rattle.object_tables.proofs.sameness.same_through.Goals as goal

pub returns : goal.returns
returns c = same_through c.args.first.now c.args.second.now c.args.third.now c.end.ensures.kept c.end-2.ensures.kept c.requires.first c.requires.second
