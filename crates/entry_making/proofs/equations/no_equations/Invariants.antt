use Rattle.std.proofs.Common.{◌≡◌, None, replicate}
use Rattle.entry_making.proofs.equations.no_equations.Given as goal

abbrev pub invariant-loop-i : goal.invariant-loop-i
invariant-loop-i l = l.table.items ≡ replicate l.i None
