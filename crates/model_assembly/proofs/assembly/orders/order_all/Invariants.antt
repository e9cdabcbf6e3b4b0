use Rattle.std.proofs.Common.{◌≡◌}
use Rattle.model_assembly.specs.AssemblyOrders.{ordered}
use Rattle.model_assembly.proofs.assembly.orders.order_all.Given as goal

-- the orders so far
abbrev pub invariant-loop-i : goal.invariant-loop-i
invariant-loop-i l = l.model ≡ ordered l.fn.model l.namings l.i
