use Rattle.std.proofs.Common.{ℕ, ◌<◌}
use Rattle.object_tables.specs.Containment.{IsOnCycle}
use Rattle.object_tables.proofs.model.Model.least_on_cycle.Given as goal

-- no object so far is on a cycle
abbrev pub invariant-loop-o : goal.invariant-loop-o
invariant-loop-o l = (a : ℕ) → a < l.o → IsOnCycle l.self a → ⊥
