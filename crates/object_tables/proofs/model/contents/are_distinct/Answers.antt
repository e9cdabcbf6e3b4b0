use Rattle.std.proofs.Common.{refl, arith, rules}
use Rattle.object_tables.proofs.ConditionLemmas.{apart_more}
use Rattle.object_tables.proofs.model.contents.are_distinct.Goals as goal

pub loop-i-preserved : goal.loop-i-preserved
loop-i-preserved c = apart_more c.args.values.now c.loop-i.i c.index-values-i.result c.loop-i-test.true c.index-values-i.is (c.if-not-is_absent.ensures.0 refl) c.loop-i.invariant

pub loop-i-init : goal.loop-i-init
loop-i-init c = λ j k d l. absurd (omega arith)

pub returns : goal.returns
returns c = ((λ _ i j d l m. c.loop-i.invariant i j d (omega arith) l m), (λ _. search rules))
