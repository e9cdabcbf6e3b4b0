use Rattle.relation_calls.specs.Tables.{AreSound}
use Rattle.relation_calls.proofs.joins.joins_of.Given as goal

abbrev pub invariant-loop-conjunct : goal.invariant-loop-conjunct
invariant-loop-conjunct l = AreSound l.visit.program.now l.visit.models.now l.visit.rel.now.whens l.joins
