use Rattle.enforcement_rules.proofs.TwoKeyLaws.{below_none, below_more}
use Rattle.enforcement_rules.proofs.two_keys.edges_below.Goals as goal

pub loop-c-init : goal.loop-c-init
loop-c-init c = below_none c.args.meta.now c.new-edges.result c.new-edges.ensures

pub loop-c-preserved : goal.loop-c-preserved
loop-c-preserved c = below_more c.args.meta.now c.loop-c.c c.loop-c.edges c.put_class.new.edges c.loop-c.invariant c.in_ok-put_class.ensures
