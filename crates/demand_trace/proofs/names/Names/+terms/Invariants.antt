use Rattle.std.proofs.Common.{◌≡◌, ◌++◌, map, drop}
use Rattle.demand_trace.specs.Traces.{key_pairs, value_trace}
use Rattle.demand_trace.specs.Naming.{world}
use Rattle.demand_trace.proofs.names.Names.+terms.Given as goal

abbrev pub invariant-key_pairs-loop-place : goal.invariant-key_pairs-loop-place
invariant-key_pairs-loop-place l =
    l.pairs ++ key_pairs (world l.self) (drop l.place l.props) (drop l.place (map (value_trace (world l.self)) l.values))
    ≡ key_pairs (world l.self) l.props (map (value_trace (world l.self)) l.values)
