use Rattle.std.proofs.Common.{length, ◌-◌, ◌≤◌}
use Rattle.call_graph.specs.Searches.{ArePassed}
use Rattle.call_graph.proofs.cycle.first_unsettled.Given as goal

-- the neighbours so far are settled
abbrev pub invariant-loop-i : goal.invariant-loop-i
invariant-loop-i l = (l.i ≤ length l.row) × ArePassed l.marks l.row l.i

abbrev pub decreases-loop-i : goal.decreases-loop-i
decreases-loop-i l = length l.row - l.i
