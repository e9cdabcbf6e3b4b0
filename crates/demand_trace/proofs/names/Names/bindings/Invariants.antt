use Rattle.std.proofs.Common.{◌≡◌, ◌++◌, drop}
use Rattle.demand_trace.specs.Traces.{bindings_trace}
use Rattle.demand_trace.specs.Naming.{world}
use Rattle.demand_trace.proofs.names.Names.bindings.Given as goal

abbrev pub invariant-loop-place : goal.invariant-loop-place
invariant-loop-place l = l.pairs ++ bindings_trace (world l.self) (drop l.place l.vars) (drop l.place l.values) ≡ bindings_trace (world l.self) l.vars l.values
