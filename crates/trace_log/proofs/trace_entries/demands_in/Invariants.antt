use Rattle.std.proofs.Common.{◌≡◌, [], drop}
use Rattle.serde_json.specs.View.{items_view}
use Rattle.trace_log.specs.Readings.{items_by}
use Rattle.trace_log.specs.TraceEntries.{demand_of}
use Rattle.trace_log.proofs.trace_entries.demands_in.Given as goal

abbrev pub invariant-loop-number : goal.invariant-loop-number
invariant-loop-number l = items_by demand_of l.demands l.number (items_view (drop l.number l.values)) ≡ items_by demand_of [] 0 (items_view l.values)
