use Rattle.std.proofs.Common.{arith, subst}
use Rattle.std.specs.Prelude.{All}
use Rattle.std.proofs.lemmas.List.{take_all}
use Rattle.std.proofs.lemmas.List.Elements.{All-more}
use Rattle.model_assembly.specs.Held.{IsHeld}
use Rattle.model_assembly.proofs.held.learn_values.Goals as goal

pub loop-value-preserved : goal.loop-value-preserved
loop-value-preserved c =
    All-more IsHeld c.args.values.now c.loop-value.value-index c.value-item.result (omega arith) c.loop-value.invariant (subst IsHeld c.value-item.is c.learn_value.ensures)

pub returns : goal.returns
returns c = subst (All IsHeld) (take_all c.loop-value.value-index c.args.values.now (omega arith)) c.loop-value.invariant
