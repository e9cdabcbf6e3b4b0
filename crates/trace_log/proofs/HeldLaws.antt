-- What is written of a trace is this trace, and it is read as the value that was written.
use Rattle.std.proofs.Common.{◌≡◌, ℕ, suc, ◌^◌, ◌<◌, ℤ, pos, negsuc, List, [], ◌∷◌, length, get_or, map, Some, refl, sym, subst, arith, lt-ltb, chars}
use Rattle.std.specs.Prelude.{codes, encode_utf8_all, FitsSigned}
use Rattle.std.specs.Int.{w64}
use Rattle.serde_json.specs.Data.{Data}
use Rattle.serde_json.specs.Find.{of_integer, as_i64}
use Rattle.serde_json.specs.View.{items_of}
use Rattle.trace_log.specs.declared.trace.Trace.{Trace}
use Rattle.trace_log.specs.declared.trace.TraceDemand.{TraceDemand}
use Rattle.trace_log.specs.declared.trace.TraceEntry.{TraceEntry}
use Rattle.trace_log.specs.declared.trace.TracePair.{TracePair}
use Rattle.trace_log.specs.declared.trace.TraceTerm.{TraceTerm}
use Rattle.trace_log.specs.declared.trace.TraceValue.{TraceValue}
use Rattle.trace_log.specs.declared.trace.TraceValue.TheVariants as values
use Rattle.trace_log.specs.TraceForms.{one, two, IsValue, IsTerm, IsPair, ArePairs, AreAll, IsDemand, IsEntry, IsTrace}
use Rattle.trace_log.specs.TraceValues.{pair, term}
use Rattle.trace_log.specs.TraceData.{text_data, list_data, value_data, pair_data, term_data, demand_data, entry_data, trace_data}
use Rattle.trace_log.specs.TraceHeld.{IsText, IsHeldValue, IsHeldTerm, IsHeldPair, AreHeldPairs, IsHeldDemand, IsHeldEntry, IsHeld}
use Rattle.trace_log.proofs.DataLaws.{str_data, int_data, bool_data, lit_data, obj_data, target_data, named_data, keyed_data}

-- ---- the values of JSON are these values

integer_is : (i : ℤ) → FitsSigned w64 i → as_i64 (of_integer i) ≡ Some i
integer_is (pos n) f = let fits : n < 2 ^ 63 = f.sfits in rw (lt-ltb n (2 ^ 63) fits) refl
integer_is (negsuc n) f = refl

-- a text is its characters
text_form : (s : List ℕ) → IsText s → IsValue (one (codes "s") (text_data s)) (values.Str s)
text_form s h = subst (λ t. IsValue (one (codes "s") (text_data s)) (values.Str t)) h (IsValue.text (encode_utf8_all s))

literal_form : (s : List ℕ) → IsText s → IsValue (one (codes "e") (text_data s)) (values.Lit s)
literal_form s h = subst (λ t. IsValue (one (codes "e") (text_data s)) (values.Lit t)) h (IsValue.literal (encode_utf8_all s))

source_form : (model id : List ℕ) → IsText model → IsText id → IsValue (one (codes "o") (two (text_data model) (text_data id))) (values.Obj model id)
source_form model id h k =
    let d = one (codes "o") (two (text_data model) (text_data id)) in
    subst (λ m. IsValue d (values.Obj m id)) h
    (subst (λ i. IsValue d (values.Obj (chars (encode_utf8_all model)) i)) k (IsValue.source (encode_utf8_all model) (encode_utf8_all id)))

mutual
  pub value_form : (v : TraceValue) → IsHeldValue v → IsValue (value_data v) v
  value_form v (IsHeldValue.text s h) = subst (λ d. IsValue d (values.Str s)) (sym (str_data s)) (text_form s h)
  value_form v (IsHeldValue.integer i h) =
      subst (λ d. IsValue d (values.Int i)) (sym (int_data i)) (IsValue.integer (of_integer i) i (integer_is i h))
  value_form v (IsHeldValue.flag b) = subst (λ d. IsValue d (values.Bool b)) (sym (bool_data b)) (IsValue.flag b)
  value_form v (IsHeldValue.literal s h) = subst (λ d. IsValue d (values.Lit s)) (sym (lit_data s)) (literal_form s h)
  value_form v (IsHeldValue.source model id h k) =
      subst (λ d. IsValue d (values.Obj model id)) (sym (obj_data model id)) (source_form model id h k)
  value_form v (IsHeldValue.target t h) = subst (λ d. IsValue d (values.Term t)) (sym (target_data t)) (IsValue.target (term_data t) t (term_form t h))

  pub term_form : (t : TraceTerm) → IsHeldTerm t → IsTerm (term_data t) t
  term_form t (IsHeldTerm.keyed class ps h hs) =
      subst (λ d. IsTerm d (term class ps)) (sym (keyed_data class ps))
      (subst (λ c. IsTerm (two (text_data class) (list_data (map pair_data ps))) (term c ps)) h
      (IsTerm.keyed (encode_utf8_all class) (items_of (map pair_data ps)) ps (pairs_form ps hs)))

  pair_form : (p : TracePair) → IsHeldPair p → IsPair (pair_data p) p
  pair_form p (IsHeldPair.named name v h k) =
      subst (λ d. IsPair d (pair name v)) (sym (named_data name v))
      (subst (λ n. IsPair (two (text_data name) (value_data v)) (pair n v)) h (IsPair.named (encode_utf8_all name) (value_data v) v (value_form v k)))

  pub pairs_form : (ps : List TracePair) → AreHeldPairs ps → ArePairs (items_of (map pair_data ps)) ps
  pairs_form ps AreHeldPairs.none = ArePairs.none
  pairs_form ps (AreHeldPairs.first p qs h hs) =
      ArePairs.first (pair_data p) p (items_of (map pair_data qs)) qs (pair_form p h) (pairs_form qs hs)

-- each of a list
all_form : {X : Type 0} (f : X → Data) (Is : Data → X → Type 0) (Held : X → Type 0) → ((x : X) → Held x → Is (f x) x)
    → (xs : List X) → ((k : ℕ) (d : X) → k < length xs → Held (get_or xs k d)) → AreAll Is (items_of (map f xs)) xs
all_form f Is Held forms [] h = tt
all_form f Is Held forms (x ∷ xs) h = (forms x (h 0 x (omega arith)), all_form f Is Held forms xs (λ k d l. h (suc k) d (omega arith)))

demand_form : (x : TraceDemand) → IsHeldDemand x → IsDemand (demand_data x) x
demand_form x h =
    subst (λ n. IsDemand (demand_data x) (record { item = n; place = x.place; value = x.value })) h.item
    (IsDemand.demand (encode_utf8_all x.item) (term_data x.place) (value_data x.value) x.place x.value (term_form x.place h.place)
    (value_form x.value h.value))

entry_form : (x : TraceEntry) → IsHeldEntry x → IsEntry (entry_data x) x
entry_form x h =
    subst (λ n. IsEntry (entry_data x) (record { relation = n; called = x.called; values = x.values; made = x.made; demands = x.demands })) h.relation
    (IsEntry.entry x.called (items_of (map demand_data x.demands)) (items_of (map pair_data x.made)) (items_of (map pair_data x.values))
    (encode_utf8_all x.relation) x.demands x.made x.values (all_form demand_data IsDemand IsHeldDemand demand_form x.demands h.demands)
    (pairs_form x.made h.made) (pairs_form x.values h.values))

-- what is written of a trace is this trace
pub trace_form : (t : Trace) → IsHeld t → IsTrace (trace_data t) t
trace_form t h =
    subst (λ n. IsTrace (trace_data t) (record { transformation = n; target = t.target; entries = t.entries })) h.transformation
    (subst (λ n. IsTrace (trace_data t) (record { transformation = chars (encode_utf8_all t.transformation); target = n; entries = t.entries }))
    h.target
    (IsTrace.trace (items_of (map entry_data t.entries)) (encode_utf8_all t.target) (encode_utf8_all t.transformation) t.entries
    (all_form entry_data IsEntry IsHeldEntry entry_form t.entries h.entries)))
