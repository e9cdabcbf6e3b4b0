use Rattle.std.proofs.Common.{◌≡◌, ◌++◌, drop, All}
use Rattle.mof_metamodel.specs.Tables.{IsPropOf}
use Rattle.repair_semantics.specs.declared.demand.Demand.{Demand}
use Rattle.demand_trace.specs.Cuts.{entries_cut}
use Rattle.demand_trace.specs.Naming.{world}
use Rattle.demand_trace.proofs.names.Names.entries.Given as goal

abbrev pub invariant-loop-number : goal.invariant-loop-number
invariant-loop-number l = record {
  cut : l.traced ++ entries_cut (world l.self) l.left l.number (drop l.number l.entries) ≡ entries_cut (world l.self) l.demands 0 l.entries;
  props : All (λ (d : Demand). IsPropOf l.self.target.now d.prop) l.left;
}
