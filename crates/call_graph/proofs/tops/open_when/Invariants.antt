use Rattle.call_graph.specs.Tops.{AreWhensDone}
use Rattle.call_graph.proofs.tops.open_when.Given as goal

-- the when calls of the nodes so far lead to nodes that are done
abbrev pub invariant-loop-p : goal.invariant-loop-p
invariant-loop-p l = AreWhensDone l.whens l.standings l.stack l.from l.p
