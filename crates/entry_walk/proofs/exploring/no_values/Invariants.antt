use Rattle.std.proofs.Common.{◌≡◌, None, replicate}
use Rattle.entry_walk.proofs.exploring.no_values.Given as goal

abbrev pub invariant-loop-i : goal.invariant-loop-i
invariant-loop-i l = l.values.items ≡ replicate l.i None
