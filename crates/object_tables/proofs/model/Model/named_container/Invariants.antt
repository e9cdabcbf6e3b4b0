use Rattle.std.proofs.Common.{◌≡◌, ℕ, ◌<◌, Some, get_or}
use Rattle.mof_metamodel.specs.Metamodels.{opposite_of}
use Rattle.object_tables.specs.Models.{IsContainedIn}
use Rattle.object_tables.proofs.model.Model.named_container.Given as goal

-- the properties so far are no opposites by which the object is contained
abbrev pub invariant-loop-i : goal.invariant-loop-i
invariant-loop-i l = (k : ℕ) → k < l.i → (a p : ℕ) → opposite_of l.self.meta p ≡ Some (get_or l.q-items k (record { 0 = 0 })).0 → IsContainedIn l.self l.o.0 a p → ⊥
