use Rattle.std.specs.Prelude.{take, map}
use Rattle.std.proofs.Common.{◌≡◌}
use Rattle.entry_making.specs.CallNumbers.{call_of}
use Rattle.demand_set.proofs.trees.chain_trees.Given as goal

abbrev pub invariant-loop-call : goal.invariant-loop-call
invariant-loop-call l = l.names ≡ map (call_of l.table) (take l.call-index l.chain)
