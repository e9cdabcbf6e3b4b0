-- The traces of values and terms, by their parts as code reads them.
use Rattle.std.specs.Prelude.{◌≡◌, ◌≤◌, ◌<◌, ◌+◌, ℕ, List, [], ◌∷◌, ◌++◌, map, length, drop, None, Some, slice_get}
use Rattle.std.proofs.Common.{sym, ap, subst, ◌∙◌, get_or}
use Rattle.std.proofs.lemmas.List.{length-map, get_or-map}
use Rattle.mof_metamodel.specs.declared.desc.PropId.{PropId}
use Rattle.qvtr_semantics.specs.declared.datum.Datum.{Datum}
use Rattle.repair_semantics.specs.declared.term.Term.{Term, out-Term, roll-Term, roll-out-Term, fold-roll-Term}
use Rattle.repair_semantics.specs.declared.term.TermValue.{TermValue, roll-TermValue, fold-roll-TermValue}
use Rattle.repair_semantics.specs.declared.term.TermValue.TheOpen as of
use Rattle.trace_log.specs.declared.trace.TracePair.{TracePair}
use Rattle.trace_log.specs.declared.trace.TraceTerm.{TraceTerm}
use Rattle.trace_log.specs.declared.trace.TraceValue.{TraceValue}
use Rattle.trace_log.specs.declared.trace.TraceValue.TheVariants as traces
use Rattle.trace_log.specs.TraceValues.{pair, term}
use Rattle.demand_trace.specs.Traces.{World, datum_trace, class_name, prop_name, key_props, key_pairs, value_step, term_step, value_trace, term_trace}
use Rattle.demand_trace.proofs.SideLaws.{mapped_more, mapped_end, mapped_all}

module _ (w : World) where
  pub trace_of_datum : (d : Datum) → value_trace w (roll-TermValue (of.Val d)) ≡ datum_trace w d
  trace_of_datum d = fold-roll-TermValue TraceValue TraceTerm (value_step w) (term_step w) (of.Val d)

  pub trace_of_term : (t : Term) → value_trace w (roll-TermValue (of.Term t)) ≡ traces.Term (term_trace w t)
  trace_of_term t = fold-roll-TermValue TraceValue TraceTerm (value_step w) (term_step w) (of.Term t)

  pub term_parts : (t : Term) → term_trace w t ≡ term (class_name w (out-Term t).class) (key_pairs w (key_props w (out-Term t).class) (map (value_trace w) (out-Term t).keys))
  term_parts t = ap (term_trace w) (sym (roll-out-Term t)) ∙ fold-roll-Term TraceValue TraceTerm (value_step w) (term_step w) (out-Term t)

-- ---- the properties of a key, one by one

module _ (w : World) (ps : List PropId) (vs : List TermValue) (k : ℕ) (made : List TracePair)
    (so_far : made ++ key_pairs w (drop k ps) (drop k (map (value_trace w) vs)) ≡ key_pairs w ps (map (value_trace w) vs)) where
  abbrev named : PropId × TraceValue → TracePair
  named x = pair (prop_name w x.0) x.1

  pub pairs_more : (more : List TracePair) (p : PropId) (v : TermValue) (z : TracePair) → slice_get ps k ≡ Some p → k < length vs → v ≡ get_or vs k v
      → z ≡ pair (prop_name w p) (value_trace w v) → more ≡ made ++ z ∷ []
      → more ++ key_pairs w (drop (k + 1) ps) (drop (k + 1) (map (value_trace w) vs)) ≡ key_pairs w ps (map (value_trace w) vs)
  pairs_more more p v z found below is says pushed =
      mapped_more ps (map (value_trace w) vs) k named made more p (value_trace w v) z found (subst (λ n. k < n) (sym (length-map vs (value_trace w))) below)
      (ap (value_trace w) is ∙ sym (get_or-map (value_trace w) vs k v (value_trace w v) below)) says pushed so_far

  pub pairs_end : slice_get ps k ≡ None → made ≡ key_pairs w ps (map (value_trace w) vs)
  pairs_end none = mapped_end ps (map (value_trace w) vs) k named made none so_far

  pub pairs_all : length vs ≤ k → made ≡ key_pairs w ps (map (value_trace w) vs)
  pairs_all le = mapped_all ps (map (value_trace w) vs) k named made (subst (λ n. n ≤ k) (sym (length-map vs (value_trace w))) le) so_far
