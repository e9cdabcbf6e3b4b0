use Rattle.std.proofs.Common.{ℕ, ◌<◌}
use Rattle.std.specs.Prelude.{All}
use Rattle.mof_metamodel.specs.Metamodels.{enum_at}
use Rattle.model_assembly.specs.Held.{IsHeldText}
use Rattle.model_assembly.proofs.held.learn_enums.Given as goal

abbrev pub invariant-loop-e : goal.invariant-loop-e
invariant-loop-e l = (d : ℕ) → d < l.e → All IsHeldText (enum_at l.meta d).literals
