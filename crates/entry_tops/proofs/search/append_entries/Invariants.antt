use Rattle.std.proofs.Common.{◌≡◌, ◌++◌}
use Rattle.entry_tops.proofs.search.append_entries.Given as goal

abbrev pub invariant-loop-e : goal.invariant-loop-e
invariant-loop-e l = l.entries ≡ l.fn.entries ++ l.yielded
