use Rattle.std.proofs.Common.{◌≡◌, map, take}
use Rattle.call_graph.specs.Walks.{stratum_of}
use Rattle.call_graph.proofs.walk.strata_of.Given as goal

-- the strata so far
abbrev pub invariant-loop-i : goal.invariant-loop-i
invariant-loop-i l = l.strata ≡ map stratum_of (take l.i l.standings)
