use Rattle.std.proofs.Common.{◌≡◌, ◌+◌, ◌*◌, [], drop}
use Rattle.serde_json.specs.Data.{depth, items_depth}
use Rattle.serde_json.specs.View.{view, items_view}
use Rattle.trace_log.specs.TraceValues.{pairs_of}
use Rattle.trace_log.proofs.trace_values.+value.Given as goal

-- What stands in a value of JSON nests less deep.

abbrev pub decreases-value_of : goal.decreases-value_of
decreases-value_of l = 3 * depth (view l.value.now)

abbrev pub decreases-term_of : goal.decreases-term_of
decreases-term_of l = 3 * depth (view l.content.now)

abbrev pub decreases-keys_of : goal.decreases-keys_of
decreases-keys_of l = 3 * depth (view l.keys.now)

abbrev pub decreases-keys_in : goal.decreases-keys_in
decreases-keys_in l = 3 * items_depth (items_view l.values.now) + 2

abbrev pub decreases-pair_of : goal.decreases-pair_of
decreases-pair_of l = 3 * depth (view l.pair.now)

abbrev pub decreases-pairs_of : goal.decreases-pairs_of
decreases-pairs_of l = 3 * items_depth (items_view l.values.now) + 1

abbrev pub invariant-pairs_of-loop-number : goal.invariant-pairs_of-loop-number
invariant-pairs_of-loop-number l = pairs_of l.pairs l.number (items_view (drop l.number l.values)) ≡ pairs_of [] 0 (items_view l.values)
