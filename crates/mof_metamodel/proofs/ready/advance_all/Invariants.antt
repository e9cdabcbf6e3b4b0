use Rattle.std.proofs.Common.{ℕ, ◌<◌, length, get_or}
use Rattle.mof_metamodel.specs.Tables.{IsQueue, IsSettled, Begins}
use Rattle.mof_metamodel.proofs.ready.advance_all.Given as goal

-- the classes so far were looked at
abbrev pub invariant-loop-c : goal.invariant-loop-c
invariant-loop-c l = IsQueue l.hierarchy l.orders l.known l.ready l.marks × Begins l.fn.ready l.ready × ((i : ℕ) → i < l.c-index → i < length l.classes → IsSettled l.hierarchy l.orders l.ready (get_or l.classes i 0))
