use Rattle.std.proofs.Common.{take}
use Rattle.std.specs.Prelude.{All}
use Rattle.model_assembly.specs.Held.{IsHeldText}
use Rattle.model_assembly.proofs.held.learn_texts.Given as goal

abbrev pub invariant-loop-text : goal.invariant-loop-text
invariant-loop-text l = All IsHeldText (take l.text-index l.texts)
