use Rattle.std.proofs.Common.{◌≡◌, map, take}
use Rattle.demand_trace.specs.Traces.{demand_trace}
use Rattle.demand_trace.specs.Naming.{world}
use Rattle.demand_trace.proofs.names.Names.demands.Given as goal

abbrev pub invariant-loop-demand : goal.invariant-loop-demand
invariant-loop-demand l = l.traced ≡ map (demand_trace (world l.self)) (take l.demand-index l.demands)
