use Rattle.std.proofs.Common.{[], arith}
use Rattle.call_graph.proofs.TopLemmas.{whens_more, when_open}
use Rattle.call_graph.proofs.tops.open_when.Goals as goal

pub returns-in-Some : goal.returns-in-Some
returns-in-Some c =
    when_open c.args.whens.now [] c.args.standings.now c.args.stack.now c.args.from c.loop-p.p c.in-Some.field-0 c.row_of.result.now c.row_of.ensures c.loop-p.auto.p c.loop-p-test.true c.in-Some.ensures.0 c.in-Some.ensures.1

pub loop-p-preserved : goal.loop-p-preserved
loop-p-preserved c =
    whens_more c.args.whens.now [] c.args.standings.now c.args.stack.now c.args.from c.loop-p.p c.row_of.result.now c.loop-p.invariant c.row_of.ensures c.in-None.ensures

pub returns : goal.returns
returns c = λ p v above below leads. c.loop-p.invariant p v above (omega arith) leads
