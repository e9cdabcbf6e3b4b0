use Rattle.std.specs.Prelude.{All}
use Rattle.std.proofs.Common.{arith, subst}
use Rattle.std.proofs.lemmas.List.{take_all}
use Rattle.std.proofs.lemmas.List.Elements.{All-more}
use Rattle.enforce_steps.specs.Premises.{AreFew, IsNumbered}
use Rattle.enforce_steps.proofs.counting.few_in_each.Goals as goal

pub loop-rel-preserved : goal.loop-rel-preserved
loop-rel-preserved c =
    All-more IsNumbered c.args.rels.now c.loop-rel.rel-index c.rel-item.result c.loop-rel-test.true c.loop-rel.invariant
    (subst IsNumbered c.rel-item.is (subst AreFew c.as_slice.ensures c.few_numbers.ensures, subst AreFew c.as_slice-in-loop-rel.ensures c.few_numbers-in-loop-rel.ensures))

pub returns : goal.returns
returns c = subst (All IsNumbered) (take_all c.loop-rel.rel-index c.args.rels.now (omega arith)) c.loop-rel.invariant
