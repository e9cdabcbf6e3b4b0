-- The value of JSON (RFC 8259) that is written of a trace, and its text: one line, in which objects have their members in the order of
-- their names.
use Rattle.std.specs.Prelude.{ℕ, List, [], ◌∷◌, ◌++◌, map, codes, encode_utf8_all}
use Rattle.serde_json.specs.Data.{unsigned, Data, boolean, number, string, array, object, no_members, member}
use Rattle.serde_json.specs.Find.{of_integer}
use Rattle.serde_json.specs.View.{items_of}
use Rattle.serde_json.specs.Written.{compact_text}
use Rattle.trace_log.specs.declared.trace.Trace.{Trace}
use Rattle.trace_log.specs.declared.trace.TraceDemand.{TraceDemand}
use Rattle.trace_log.specs.declared.trace.TraceEntry.{TraceEntry}
use Rattle.trace_log.specs.declared.trace.TracePair.{TracePair, fold-TracePair}
use Rattle.trace_log.specs.declared.trace.TraceTerm.{TraceTerm, fold-TraceTerm}
use Rattle.trace_log.specs.declared.trace.TraceValue.{TraceValue, fold-TraceValue}
use Rattle.trace_log.specs.declared.trace.TraceValue.TheOpen as of
use Rattle.trace_log.specs.TraceForms.{one, two}

-- a text, as its bytes in UTF-8
abbrev pub text_data : List ℕ → Data
text_data text = string (encode_utf8_all text)

abbrev pub list_data : List Data → Data
list_data ds = array (items_of ds)

-- a value, a pair and a term by what their parts are

abbrev pub value_step : of.TraceValue-F Data Data Data → Data
value_step (of.Str text) = one (codes "s") (text_data text)
value_step (of.Int i) = one (codes "i") (number (of_integer i))
value_step (of.Bool b) = one (codes "b") (boolean b)
value_step (of.Lit name) = one (codes "e") (text_data name)
value_step (of.Obj model id) = one (codes "o") (two (text_data model) (text_data id))
value_step (of.Term d) = one (codes "t") d

abbrev pub pair_step : of.TracePair-F Data Data Data → Data
pair_step p = two (text_data p.name) p.value

abbrev pub term_step : of.TraceTerm-F Data Data Data → Data
term_step t = two (text_data t.class) (list_data t.keys)

abbrev pub value_data : TraceValue → Data
value_data = fold-TraceValue Data Data Data value_step pair_step term_step

abbrev pub pair_data : TracePair → Data
pair_data = fold-TracePair Data Data Data value_step pair_step term_step

-- the content of a value that is a term
abbrev pub term_data : TraceTerm → Data
term_data = fold-TraceTerm Data Data Data value_step pair_step term_step

abbrev pub demand_data : TraceDemand → Data
demand_data x =
    object
    (member (codes "item") (text_data x.item)
    (member (codes "place") (one (codes "t") (term_data x.place)) (member (codes "value") (value_data x.value) no_members)))

abbrev pub entry_data : TraceEntry → Data
entry_data x =
    object
    (member (codes "called") (boolean x.called)
    (member (codes "demands") (list_data (map demand_data x.demands))
    (member (codes "made") (list_data (map pair_data x.made))
    (member (codes "relation") (text_data x.relation) (member (codes "values") (list_data (map pair_data x.values)) no_members)))))

abbrev pub trace_data : Trace → Data
trace_data t =
    object
    (member (codes "entries") (list_data (map entry_data t.entries))
    (member (codes "target") (text_data t.target)
    (member (codes "transformation") (text_data t.transformation) (member (codes "version") (number (unsigned 1)) no_members))))

-- the text of a trace: one line
abbrev pub text_of_trace : Trace → List ℕ
text_of_trace t = compact_text (trace_data t) ++ 10 ∷ []
