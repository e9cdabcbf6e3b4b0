use Rattle.std.proofs.Common.{ℕ, ◌<◌, get_or}
use Rattle.object_tables.specs.Validity.{KeepsBounds}
use Rattle.object_tables.proofs.model.Model.broken_bound_of.Given as goal

-- the bounds are kept at each property so far
abbrev pub invariant-loop-i : goal.invariant-loop-i
invariant-loop-i l = (k : ℕ) → k < l.i → KeepsBounds l.self l.o.0 (get_or l.p-items k (record { 0 = 0 })).0
