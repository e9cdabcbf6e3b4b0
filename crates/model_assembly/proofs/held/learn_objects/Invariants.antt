use Rattle.std.proofs.Common.{◌≡◌, ℕ, ◌<◌, List, Some}
use Rattle.std.specs.Prelude.{All}
use Rattle.object_tables.specs.Models.{IsAttributeOf, id_at, values_at}
use Rattle.model_assembly.specs.Held.{IsHeldText, IsHeld}
use Rattle.model_assembly.proofs.held.learn_objects.Given as goal

abbrev pub invariant-loop-o : goal.invariant-loop-o
invariant-loop-o l =
    (a : ℕ) → a < l.o
    → ((id : List ℕ) → id_at l.model a ≡ Some id → IsHeldText id) × ((p : ℕ) → IsAttributeOf l.model a p → All IsHeld (values_at l.model a p))
