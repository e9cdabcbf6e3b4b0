use Rattle.std.proofs.Common.{arith, subst}
use Rattle.std.specs.Prelude.{All}
use Rattle.std.proofs.lemmas.List.{take_all}
use Rattle.std.proofs.lemmas.List.Elements.{All-more}
use Rattle.repair_cases.specs.Small.{IsSmall}
use Rattle.repair_cases.proofs.small.is_small.Goals as goal

pub loop-rel-preserved : goal.loop-rel-preserved
loop-rel-preserved c =
    All-more IsSmall c.args.rels.now c.loop-rel.rel-index c.rel-item.result c.loop-rel-test.true c.loop-rel.invariant
    (subst IsSmall c.rel-item.is (c.is_small_relation.ensures c.if-not-is_small_relation.false))

pub returns : goal.returns
returns c = λ _. subst (All IsSmall) (take_all c.loop-rel.rel-index c.args.rels.now (omega arith)) c.loop-rel.invariant
