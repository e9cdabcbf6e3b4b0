use Rattle.std.proofs.Common.{◌≡◌, drop}
use Rattle.enforcement_rules.specs.Edges.{with_edges}
use Rattle.enforcement_rules.proofs.edges.put_edges.Given as goal

abbrev pub invariant-loop-edge : goal.invariant-loop-edge
invariant-loop-edge l = with_edges l.rows (drop l.edge-index l.edges) ≡ with_edges l.fn.rows l.edges
