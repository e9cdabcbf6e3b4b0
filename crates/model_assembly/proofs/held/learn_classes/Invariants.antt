use Rattle.std.proofs.Common.{ℕ, ◌<◌}
use Rattle.std.specs.Prelude.{All}
use Rattle.mof_metamodel.specs.Metamodels.{class_at, own_props, prop_at}
use Rattle.model_assembly.specs.Held.{IsHeldText}
use Rattle.model_assembly.proofs.held.learn_classes.Given as goal

abbrev pub invariant-loop-c : goal.invariant-loop-c
invariant-loop-c l = (d : ℕ) → d < l.c → IsHeldText (class_at l.meta d).name × All (λ p. IsHeldText (prop_at l.meta p).name) (own_props l.meta d)
