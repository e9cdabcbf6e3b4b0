use Rattle.std.proofs.Common.{take}
use Rattle.std.specs.Prelude.{All}
use Rattle.mof_metamodel.specs.Metamodels.{prop_at}
use Rattle.model_assembly.specs.Held.{IsHeldText}
use Rattle.model_assembly.proofs.held.learn_props.Given as goal

abbrev pub invariant-loop-p : goal.invariant-loop-p
invariant-loop-p l = All (λ p. IsHeldText (prop_at l.meta p.0).name) (take l.p-index l.p-items)
