use Rattle.std.proofs.Common.{ℕ, ◌<◌, get_or}
use Rattle.call_graph.specs.Tops.{IsDone}
use Rattle.call_graph.proofs.tops.undone.Given as goal

-- the nodes so far are done
abbrev pub invariant-loop-i : goal.invariant-loop-i
invariant-loop-i l = (k : ℕ) → k < l.i → IsDone l.standings (get_or l.row k 0)
