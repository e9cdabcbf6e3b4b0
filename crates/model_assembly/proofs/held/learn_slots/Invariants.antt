use Rattle.std.proofs.Common.{take}
use Rattle.std.specs.Prelude.{All}
use Rattle.object_tables.specs.Models.{IsAttributeOf, values_at}
use Rattle.model_assembly.specs.Held.{IsHeld}
use Rattle.model_assembly.proofs.held.learn_slots.Given as goal

abbrev pub invariant-loop-p : goal.invariant-loop-p
invariant-loop-p l = All (λ p. IsAttributeOf l.model l.o.0 p.0 → All IsHeld (values_at l.model l.o.0 p.0)) (take l.p-index l.p-items)
