use Rattle.std.proofs.Common.{◌≡◌, replicate}
use Rattle.call_graph.proofs.cycle.no_places.Given as goal

abbrev pub invariant-loop-i : goal.invariant-loop-i
invariant-loop-i l = l.next.items ≡ replicate l._i 0
