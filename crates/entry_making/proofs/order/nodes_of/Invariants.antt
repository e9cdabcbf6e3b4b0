use Rattle.std.proofs.Common.{◌≡◌, map, take}
use Rattle.entry_making.proofs.order.nodes_of.Given as goal

abbrev pub invariant-loop-r : goal.invariant-loop-r
invariant-loop-r l = l.order ≡ map (λ r. r.node) (take l.r-index l.ranked)
