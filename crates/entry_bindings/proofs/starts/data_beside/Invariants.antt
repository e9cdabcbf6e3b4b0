use Rattle.std.proofs.Common.{◌≡◌, ◌++◌, drop}
use Rattle.entry_bindings.specs.Starts.{data_beside}
use Rattle.entry_bindings.proofs.starts.data_beside.Given as goal

abbrev pub invariant-loop-i : goal.invariant-loop-i
invariant-loop-i l = l.values ++ data_beside (drop l.i l.roots) (drop l.i l.found) ≡ data_beside l.roots l.found
