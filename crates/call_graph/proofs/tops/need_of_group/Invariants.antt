use Rattle.call_graph.specs.Tops.{IsGroupTop}
use Rattle.call_graph.proofs.tops.need_of_group.Given as goal

-- what the nodes so far need
abbrev pub invariant-loop-p : goal.invariant-loop-p
invariant-loop-p l = IsGroupTop l.whens l.wheres l.standings l.stack l.from l.p l.top
