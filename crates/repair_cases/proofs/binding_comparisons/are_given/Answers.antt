use Rattle.std.proofs.Common.{arith, subst}
use Rattle.std.specs.Prelude.{All}
use Rattle.std.proofs.lemmas.List.{take_all}
use Rattle.std.proofs.lemmas.List.Elements.{All-more}
use Rattle.repair_cases.specs.Roots.{IsGiven}
use Rattle.repair_cases.proofs.binding_comparisons.are_given.Goals as goal

pub loop-dom-preserved : goal.loop-dom-preserved
loop-dom-preserved c =
    let given = IsGiven c.args.roots.now.values in
    All-more given c.args.domains.now c.loop-dom.dom-index c.dom-item.result c.loop-dom-test.true c.loop-dom.invariant
    (subst given c.dom-item.is (c.is_given.ensures c.if-not-is_given.false))

pub returns : goal.returns
returns c = λ _. subst (All (IsGiven c.args.roots.now.values)) (take_all c.loop-dom.dom-index c.args.domains.now (omega arith)) c.loop-dom.invariant
