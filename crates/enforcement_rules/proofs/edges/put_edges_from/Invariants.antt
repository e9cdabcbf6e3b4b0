use Rattle.std.proofs.Common.{◌≡◌, ◌++◌, take}
use Rattle.enforcement_rules.specs.Edges.{edges_from}
use Rattle.enforcement_rules.proofs.edges.put_edges_from.Given as goal

abbrev pub invariant-loop-w : goal.invariant-loop-w
invariant-loop-w l = l.edges ≡ l.fn.edges ++ edges_from l.v (take l.w-index l.ws)
