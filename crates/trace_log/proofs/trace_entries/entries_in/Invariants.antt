use Rattle.std.proofs.Common.{◌≡◌, [], drop}
use Rattle.serde_json.specs.View.{items_view}
use Rattle.trace_log.specs.Readings.{items_by}
use Rattle.trace_log.specs.TraceEntries.{entry_of}
use Rattle.trace_log.proofs.trace_entries.entries_in.Given as goal

abbrev pub invariant-loop-number : goal.invariant-loop-number
invariant-loop-number l = items_by entry_of l.entries l.number (items_view (drop l.number l.values)) ≡ items_by entry_of [] 0 (items_view l.values)
