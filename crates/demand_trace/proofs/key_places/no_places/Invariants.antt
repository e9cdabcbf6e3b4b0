use Rattle.std.proofs.Common.{◌≡◌, None, replicate}
use Rattle.demand_trace.proofs.key_places.no_places.Given as goal

abbrev pub invariant-loop-i : goal.invariant-loop-i
invariant-loop-i l = l.table.items ≡ replicate l._i None
