use Rattle.std.proofs.Common.{arith}
use Rattle.enforcement_rules.proofs.ReaderLaws.{rules_more}
use Rattle.enforcement_rules.proofs.readers.put_queries.Goals as goal

pub loop-query-preserved : goal.loop-query-preserved
loop-query-preserved c = record {
  counted = omega arith;
  rules = rules_more c.args.program.now c.args.meta c.args.queries.now c.loop-query.query-index c.loop-query.q c.query-item.result c.args.rules.now c.loop-query.rules c.put_query.new.rules (omega arith) c.query-item.is
      c.loop-query.invariant.counted c.loop-query.invariant.rules c.in_ok-put_query.ensures;
}
