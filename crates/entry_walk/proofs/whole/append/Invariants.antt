use Rattle.std.proofs.Common.{◌≡◌, ◌++◌}
use Rattle.entry_walk.proofs.whole.append.Given as goal

abbrev pub invariant-loop-entry : goal.invariant-loop-entry
invariant-loop-entry l = l.all.items ≡ l.fn.all.items ++ l.yielded
