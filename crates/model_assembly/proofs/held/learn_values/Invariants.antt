use Rattle.std.proofs.Common.{take}
use Rattle.std.specs.Prelude.{All}
use Rattle.model_assembly.specs.Held.{IsHeld}
use Rattle.model_assembly.proofs.held.learn_values.Given as goal

abbrev pub invariant-loop-value : goal.invariant-loop-value
invariant-loop-value l = All IsHeld (take l.value-index l.values)
