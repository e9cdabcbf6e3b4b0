use Rattle.std.proofs.Common.{◌≤◌, length, arith}
use Rattle.demand_trace.specs.Traces.{binding_trace}
use Rattle.demand_trace.specs.Naming.{world}
use Rattle.demand_trace.proofs.SideLaws.{filtered_all}
use Rattle.demand_trace.proofs.names.Names.bindings.Goals as goal

pub returns : goal.returns
returns c =
    let le : length c.args.values.now ≤ c.loop-place.place = omega (arith, c.loop-place-test.false) in
    filtered_all c.args.vars.now c.args.values.now c.loop-place.place (binding_trace (world c.args.self.now)) c.loop-place.pairs le c.loop-place.invariant
