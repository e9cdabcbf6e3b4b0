-- The values of JSON that values, pairs and terms are, and their heights, by their parts.
use Rattle.std.proofs.Common.{◌≡◌, ℕ, suc, ℤ, List, Bool, map, rules}
use Rattle.std.specs.Prelude.{codes}
use Rattle.serde_json.specs.Data.{boolean, number}
use Rattle.serde_json.specs.Find.{of_integer}
use Rattle.trace_log.specs.declared.trace.TracePair.{TracePair}
use Rattle.trace_log.specs.declared.trace.TraceTerm.{TraceTerm}
use Rattle.trace_log.specs.declared.trace.TraceValue.{TraceValue, the_lemmas}
use Rattle.trace_log.specs.declared.trace.TraceValue.TheVariants as values
use Rattle.trace_log.specs.TraceForms.{one, two}
use Rattle.trace_log.specs.TraceValues.{pair, term}
use Rattle.trace_log.specs.TraceData.{text_data, list_data, value_data, pair_data, term_data}
use Rattle.trace_log.specs.TraceHeights.{greatest, height_of_value, height_of_pair, height_of_term}

pub str_data : (s : List ℕ) → value_data (values.Str s) ≡ one (codes "s") (text_data s)
str_data s = search (rules, the_lemmas)

pub int_data : (i : ℤ) → value_data (values.Int i) ≡ one (codes "i") (number (of_integer i))
int_data i = search (rules, the_lemmas)

pub bool_data : (b : Bool) → value_data (values.Bool b) ≡ one (codes "b") (boolean b)
bool_data b = search (rules, the_lemmas)

pub lit_data : (s : List ℕ) → value_data (values.Lit s) ≡ one (codes "e") (text_data s)
lit_data s = search (rules, the_lemmas)

pub obj_data : (model id : List ℕ) → value_data (values.Obj model id) ≡ one (codes "o") (two (text_data model) (text_data id))
obj_data model id = search (rules, the_lemmas)

pub target_data : (t : TraceTerm) → value_data (values.Term t) ≡ one (codes "t") (term_data t)
target_data t = search (rules, the_lemmas)

pub named_data : (name : List ℕ) (v : TraceValue) → pair_data (pair name v) ≡ two (text_data name) (value_data v)
named_data name v = search (rules, the_lemmas)

pub keyed_data : (class : List ℕ) (ps : List TracePair) → term_data (term class ps) ≡ two (text_data class) (list_data (map pair_data ps))
keyed_data class ps = search (rules, the_lemmas)

pub target_height : (t : TraceTerm) → height_of_value (values.Term t) ≡ height_of_term t
target_height t = search (rules, the_lemmas)

pub named_height : (name : List ℕ) (v : TraceValue) → height_of_pair (pair name v) ≡ height_of_value v
named_height name v = search (rules, the_lemmas)

pub keyed_height : (class : List ℕ) (ps : List TracePair) → height_of_term (term class ps) ≡ suc (greatest (map height_of_pair ps))
keyed_height class ps = search (rules, the_lemmas)
