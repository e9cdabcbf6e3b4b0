use Rattle.std.proofs.Common.{◌≡◌, ◌++◌, ◌∷◌, [], ◌∙◌, List, ap, sym, map, take}
use Rattle.trace_log.specs.declared.trace.TraceDemand.{TraceDemand}
use Rattle.demand_trace.specs.Traces.{demand_trace}
use Rattle.demand_trace.specs.Naming.{world}
use Rattle.demand_trace.proofs.EntryLaws.{map_more}
use Rattle.demand_trace.proofs.names.Names.demands.Goals as goal

pub loop-demand-preserved : goal.loop-demand-preserved
loop-demand-preserved c =
    map_more (demand_trace (world c.args.self.now)) c.args.demands.now c.loop-demand.demand-index c.demand-item.result c.loop-demand.traced c.push.new.self c.in_ok-demand.field-0
    c.loop-demand-test.true c.demand-item.is c.loop-demand.invariant c.in_ok-demand.ensures c.in_ok-push.ensures.ok
