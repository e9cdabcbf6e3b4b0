use Rattle.call_graph.specs.Walks.{IsWalk, StaySeen, weight}
use Rattle.call_graph.proofs.walk.walk_on.Given as goal

-- the walk stands, and what was looked at stays so
abbrev pub invariant-loop-step : goal.invariant-loop-step
invariant-loop-step l = record {
  walk : IsWalk l.whens l.wheres l.walk.standings.items l.walk.passed.items l.walk.stack l.walk.path;
  seen : StaySeen l.fn.walk.standings.items l.walk.standings.items;
}

abbrev pub decreases-loop-step : goal.decreases-loop-step
decreases-loop-step l = weight l.whens l.wheres l.walk
