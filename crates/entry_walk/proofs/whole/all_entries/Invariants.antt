use Rattle.std.proofs.Common.{◌≡◌, ◌++◌}
use Rattle.std.specs.List.{flat_map}
use Rattle.entry_walk.specs.FinishedTables.{entries_of}
use Rattle.entry_walk.proofs.whole.all_entries.Given as goal

abbrev pub invariant-loop-one : goal.invariant-loop-one
invariant-loop-one l = l.all.items ≡ l.fn.tops ++ flat_map entries_of l.yielded
