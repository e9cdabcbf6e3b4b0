use Rattle.std.proofs.Common.{◌≡◌, replicate}
use Rattle.call_graph.specs.declared.standing.Standing.TheVariants as stands
use Rattle.call_graph.proofs.walk.new_walk.Given as goal

-- the nodes so far are new
abbrev pub invariant-loop-i : goal.invariant-loop-i
invariant-loop-i l = record {
  standings : l.standings.items ≡ replicate l._i stands.New;
  passed : l.passed.items ≡ replicate l._i 0;
}
