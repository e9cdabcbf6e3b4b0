use Rattle.std.proofs.Common.{◌≡◌, [], replicate}
use Rattle.entry_making.proofs.order.no_rows.Given as goal

abbrev pub invariant-loop-i : goal.invariant-loop-i
invariant-loop-i l = l.rows ≡ replicate l.i []
