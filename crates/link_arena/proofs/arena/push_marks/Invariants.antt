use Rattle.std.proofs.Common.{◌≡◌, ◌+◌, length}
use Rattle.link_arena.proofs.arena.push_marks.Given as goal

abbrev pub invariant-loop : goal.invariant-loop
invariant-loop l = length l.marks.items ≡ length l.initial.marks.items + l.counter
