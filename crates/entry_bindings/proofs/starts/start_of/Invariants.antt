use Rattle.std.proofs.Common.{◌≡◌, ◌++◌, drop}
use Rattle.entry_bindings.specs.Starts.{start_of}
use Rattle.entry_bindings.proofs.starts.start_of.Given as goal

abbrev pub invariant-loop-i : goal.invariant-loop-i
invariant-loop-i l = l.values ++ start_of (drop l.i l.roots) (drop l.i l.found) ≡ start_of l.roots l.found
