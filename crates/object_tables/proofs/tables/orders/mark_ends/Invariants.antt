use Rattle.std.proofs.Common.{◌≡◌, ℕ, length}
use Rattle.std.specs.Prelude.{Contains}
use Rattle.object_tables.specs.Orders.{IsMarkedFor}
use Rattle.object_tables.proofs.tables.orders.mark_ends.Given as goal

abbrev pub invariant-loop-end : goal.invariant-loop-end
invariant-loop-end l = record {
  room : length l.marks ≡ length l.initial.marks;
  given : (e : ℕ) → Contains l.yielded e → Contains l.fn.ends e;
  marked : IsMarkedFor l.homes l.marks l.yielded;
}
