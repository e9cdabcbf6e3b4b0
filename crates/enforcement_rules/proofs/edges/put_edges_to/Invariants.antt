use Rattle.std.proofs.Common.{◌≡◌, ◌++◌, take}
use Rattle.enforcement_rules.specs.Edges.{edges_to}
use Rattle.enforcement_rules.proofs.edges.put_edges_to.Given as goal

abbrev pub invariant-loop-v : goal.invariant-loop-v
invariant-loop-v l = l.edges ≡ l.fn.edges ++ edges_to l.w (take l.v-index l.vs)
