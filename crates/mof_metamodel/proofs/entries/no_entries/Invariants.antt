use Rattle.std.proofs.Common.{◌≡◌, [], replicate}
use Rattle.mof_metamodel.proofs.entries.no_entries.Given as goal

abbrev pub invariant-loop-k : goal.invariant-loop-k
invariant-loop-k l = l.lists.items ≡ replicate l._k []
