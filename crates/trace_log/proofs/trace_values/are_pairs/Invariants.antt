use Rattle.std.proofs.Common.{◌≡◌, drop}
use Rattle.serde_json.specs.View.{items_view}
use Rattle.trace_log.specs.TraceValues.{are_pairs}
use Rattle.trace_log.proofs.trace_values.are_pairs.Given as goal

abbrev pub invariant-loop-number : goal.invariant-loop-number
invariant-loop-number l = are_pairs (items_view (drop l.number l.values)) ≡ are_pairs (items_view l.values)
