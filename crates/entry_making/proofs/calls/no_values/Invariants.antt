use Rattle.std.proofs.Common.{◌≡◌, None, replicate}
use Rattle.entry_making.proofs.calls.no_values.Given as goal

abbrev pub invariant-loop-i : goal.invariant-loop-i
invariant-loop-i l = l.values.items ≡ replicate l.i None
