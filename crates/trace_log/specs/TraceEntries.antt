-- A trace as JSON: an object with the members `entries`, a list, `target` and `transformation`, texts, and `version`, the number 1; each
-- entry with the members `called`, a Boolean, `demands`, a list, `made` and `values`, lists of pairs of a name and a value, and
-- `relation`, a text; each demand with the members `item`, the name of a property, `place`, a term, and `value`. No other members stand
-- there.
use Rattle.std.specs.Prelude.{⊤, ◌==◌, [], codes, Ok, Err, if◌then◌else◌}
use Rattle.serde_json.specs.Data.{unsigned, Data, number}
use Rattle.trace_log.specs.declared.trace.Trace.{Trace}
use Rattle.trace_log.specs.declared.trace.TraceEntry.{TraceEntry}
use Rattle.trace_log.specs.declared.trace.TraceDemand.{TraceDemand}
use Rattle.trace_log.specs.Readings.{Reading, ◌>>=◌, members_of, member_by, no_more, list_by, text_of, flag_of}
use Rattle.trace_log.specs.TraceValues.{value_of, bindings_of, place_of}

abbrev pub demand_of : Data → Reading TraceDemand
demand_of d = do
  members ← members_of d
  item ← member_by text_of (codes "item") members
  place ← member_by place_of (codes "place") item.1
  value ← member_by value_of (codes "value") place.1
  end ← no_more value.1
  Ok (record { item = item.0; place = place.0; value = value.0 })

abbrev pub entry_of : Data → Reading TraceEntry
entry_of d = do
  members ← members_of d
  called ← member_by flag_of (codes "called") members
  demands ← member_by (list_by demand_of) (codes "demands") called.1
  made ← member_by bindings_of (codes "made") demands.1
  relation ← member_by text_of (codes "relation") made.1
  values ← member_by bindings_of (codes "values") relation.1
  end ← no_more values.1
  Ok (record { relation = relation.0; called = called.0; values = values.0; made = made.0; demands = demands.0 })

-- the number 1
abbrev pub version_of : Data → Reading ⊤
version_of (number (unsigned n)) = if n == 1 then Ok tt else Err []
version_of d = Err []

-- the trace that a value is, or the path of the first place that differs from the form of a trace
abbrev pub trace_of : Data → Reading Trace
trace_of d = do
  members ← members_of d
  entries ← member_by (list_by entry_of) (codes "entries") members
  target ← member_by text_of (codes "target") entries.1
  transformation ← member_by text_of (codes "transformation") target.1
  version ← member_by version_of (codes "version") transformation.1
  end ← no_more version.1
  Ok (record { transformation = transformation.0; target = target.0; entries = entries.0 })
