use Rattle.std.proofs.Common.{arith, subst}
use Rattle.std.specs.Prelude.{All}
use Rattle.std.proofs.lemmas.List.{take_all}
use Rattle.std.proofs.lemmas.List.Elements.{All-more}
use Rattle.model_assembly.specs.Held.{IsHeldText}
use Rattle.model_assembly.proofs.held.learn_texts.Goals as goal

pub loop-text-preserved : goal.loop-text-preserved
loop-text-preserved c =
    All-more IsHeldText c.args.texts.now c.loop-text.text-index c.text-item.result (omega arith) c.loop-text.invariant (subst IsHeldText c.text-item.is c.learn_text.ensures)

pub returns : goal.returns
returns c = subst (All IsHeldText) (take_all c.loop-text.text-index c.args.texts.now (omega arith)) c.loop-text.invariant
