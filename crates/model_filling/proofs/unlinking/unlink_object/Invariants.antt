use Rattle.std.proofs.Common.{◌≡◌, ℕ, ◌<◌, []}
use Rattle.object_tables.specs.Models.{partners_at}
use Rattle.model_filling.specs.Unlinked.{Loses}
use Rattle.model_filling.proofs.PropertyLaws.{prop_in}
use Rattle.model_filling.proofs.unlinking.unlink_object.Given as goal

-- at the properties so far the object has no partners
abbrev pub invariant-loop-p : goal.invariant-loop-p
invariant-loop-p l = record {
  loses : Loses l.fn.model l.model;
  none : (k : ℕ) → k < l.p-index → partners_at l.model l.o.0 (prop_in l.p-items k) ≡ [];
}
