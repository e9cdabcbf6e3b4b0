use Rattle.std.proofs.Common.{◌≡◌, ℕ, ◌<◌, []}
use Rattle.object_tables.specs.Models.{IsReferenceOf, partners_at}
use Rattle.model_filling.specs.Unlinked.{Loses}
use Rattle.model_filling.proofs.unlinking.unlink_all.Given as goal

-- the objects so far have no partners
abbrev pub invariant-loop-o : goal.invariant-loop-o
invariant-loop-o l = record {
  loses : Loses l.fn.model l.model;
  none : (a : ℕ) → a < l.o → (p : ℕ) → IsReferenceOf l.fn.model a p → partners_at l.model a p ≡ [];
}
