use Rattle.call_graph.specs.Tops.{IsTop}
use Rattle.call_graph.proofs.tops.top_of.Given as goal

-- the greatest so far
abbrev pub invariant-loop-i : goal.invariant-loop-i
invariant-loop-i l = IsTop l.standings l.more l.row l.i l.top
