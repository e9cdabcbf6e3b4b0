use Rattle.call_graph.proofs.WalkLemmas.{all_strata}
use Rattle.call_graph.proofs.walk.visit_all.Goals as goal

pub returns : goal.returns
returns c = all_strata c.args.whens.now c.args.wheres.now c.loop-root.walk.standings.items c.loop-root.walk.passed.items c.loop-root.walk.stack c.loop-root.root c.loop-root.invariant.walk c.loop-root.invariant.looked c.loop-root-test.false
