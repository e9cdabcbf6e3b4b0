use Rattle.std.proofs.Common.{◌≡◌, map}
use Rattle.std.specs.List.{range_with_len}
use Rattle.entry_making.specs.Orders.{ranked_at}
use Rattle.entry_making.proofs.order.ranked.Given as goal

abbrev pub invariant-loop-node : goal.invariant-loop-node
invariant-loop-node l = l.nodes.items ≡ map (ranked_at l.strata) (range_with_len 0 l.node)
