-- How high terms are built: the height of a term is one more than the greatest height of a term among the values of its key, or 1 where
-- there is none (this engine's own).
use Rattle.std.specs.Prelude.{◌≤◌, ℕ, suc, max, List, [], ◌∷◌, map}
use Rattle.trace_log.specs.declared.trace.Trace.{Trace}
use Rattle.trace_log.specs.declared.trace.TraceDemand.{TraceDemand}
use Rattle.trace_log.specs.declared.trace.TraceEntry.{TraceEntry}
use Rattle.trace_log.specs.declared.trace.TracePair.{TracePair, fold-TracePair}
use Rattle.trace_log.specs.declared.trace.TraceTerm.{TraceTerm, fold-TraceTerm}
use Rattle.trace_log.specs.declared.trace.TraceValue.{TraceValue, fold-TraceValue}
use Rattle.trace_log.specs.declared.trace.TraceValue.TheOpen as of
use Rattle.trace_log.specs.declared.trace.TheConstants.{MAX_HEIGHT}

-- the greatest number of a list, or 0
abbrev pub greatest : List ℕ → ℕ
greatest [] = 0
greatest (n ∷ ns) = max n (greatest ns)

-- what is no term has the height 0
abbrev pub value_height : of.TraceValue-F ℕ ℕ ℕ → ℕ
value_height (of.Str text) = 0
value_height (of.Int i) = 0
value_height (of.Bool b) = 0
value_height (of.Lit name) = 0
value_height (of.Obj model id) = 0
value_height (of.Term h) = h

abbrev pub pair_height : of.TracePair-F ℕ ℕ ℕ → ℕ
pair_height p = p.value

abbrev pub term_height : of.TraceTerm-F ℕ ℕ ℕ → ℕ
term_height t = suc (greatest t.keys)

abbrev pub height_of_value : TraceValue → ℕ
height_of_value = fold-TraceValue ℕ ℕ ℕ value_height pair_height term_height

abbrev pub height_of_pair : TracePair → ℕ
height_of_pair = fold-TracePair ℕ ℕ ℕ value_height pair_height term_height

abbrev pub height_of_term : TraceTerm → ℕ
height_of_term = fold-TraceTerm ℕ ℕ ℕ value_height pair_height term_height

abbrev pub height_of_demand : TraceDemand → ℕ
height_of_demand x = max (height_of_term x.place) (height_of_value x.value)

abbrev pub height_of_entry : TraceEntry → ℕ
height_of_entry x =
    max (greatest (map height_of_pair x.values)) (max (greatest (map height_of_pair x.made)) (greatest (map height_of_demand x.demands)))

-- the greatest height of a term in a trace
abbrev pub height : Trace → ℕ
height t = greatest (map height_of_entry t.entries)

-- no term is higher than those that are read back
abbrev pub IsLow : Trace → Type 0
IsLow t = height t ≤ MAX_HEIGHT
