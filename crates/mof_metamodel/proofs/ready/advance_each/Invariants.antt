use Rattle.std.proofs.Common.{ℕ, ◌<◌}
use Rattle.mof_metamodel.specs.Tables.{IsQueue, IsSettled}
use Rattle.mof_metamodel.proofs.ready.advance_each.Given as goal

-- the classes so far were looked at
abbrev pub invariant-loop-c : goal.invariant-loop-c
invariant-loop-c l = IsQueue l.hierarchy l.orders l.known l.ready l.marks × ((d : ℕ) → d < l.c → IsSettled l.hierarchy l.orders l.ready d)
