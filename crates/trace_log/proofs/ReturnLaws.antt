-- The tokens of what is written of a trace are read as what was written.
use Rattle.std.proofs.Common.{◌≡◌, ℕ, suc, ◌^◌, ◌<◌, ℤ, pos, negsuc, List, [], ◌∷◌, length, get_or, map, Some, option_map, refl, sym, ap, subst, arith}
use Rattle.std.specs.Prelude.{codes, FitsSigned}
use Rattle.std.specs.Int.{w64}
use Rattle.json.specs.Tree.{HasNumbers, ItemsHaveNumbers}
use Rattle.json.proofs.Printed.Decimals.{IsNumber-decimal, IsNumber-signed_decimal}
use Rattle.serde_json.specs.Data.{Data, number, array}
use Rattle.serde_json.specs.Find.{of_integer}
use Rattle.serde_json.specs.Read.{of_json, of_items}
use Rattle.serde_json.specs.View.{items_of}
use Rattle.serde_json.specs.Written.{outline, items_outline}
use Rattle.serde_json.proofs.Numbers.{number_of-decimal, number_of-negative}
use Rattle.trace_log.specs.declared.trace.Trace.{Trace}
use Rattle.trace_log.specs.declared.trace.TraceDemand.{TraceDemand}
use Rattle.trace_log.specs.declared.trace.TraceEntry.{TraceEntry}
use Rattle.trace_log.specs.declared.trace.TracePair.{TracePair}
use Rattle.trace_log.specs.declared.trace.TraceTerm.{TraceTerm}
use Rattle.trace_log.specs.declared.trace.TraceValue.{TraceValue}
use Rattle.trace_log.specs.TraceForms.{one, two}
use Rattle.trace_log.specs.TraceData.{text_data, list_data, value_data, pair_data, term_data, demand_data, entry_data, trace_data}
use Rattle.trace_log.specs.TraceHeld.{IsHeldValue, IsHeldTerm, IsHeldPair, AreHeldPairs, IsHeldDemand, IsHeldEntry, IsHeld}
use Rattle.trace_log.proofs.DataLaws.{str_data, int_data, bool_data, lit_data, obj_data, target_data, named_data, keyed_data}

-- its numbers are numbers of JSON, and its JSON is read as the value
pub record Returns (d : Data) : Type 0 where
  pub numbers : HasNumbers (outline d)
  pub back : of_json (outline d) ≡ Some d

record AllReturn (ds : List Data) : Type 0 where
  numbers : ItemsHaveNumbers (items_outline (items_of ds))
  back : of_items (items_outline (items_of ds)) ≡ Some (items_of ds)

text_returns : (s : List ℕ) → Returns (text_data s)
text_returns s = record { numbers = tt; back = refl }

integer_returns : (i : ℤ) → FitsSigned w64 i → Returns (number (of_integer i))
integer_returns (pos n) f =
    let fits : n < 2 ^ 63 = f.sfits in
    let wide : n < 2 ^ 64 = omega arith in
    record { numbers = IsNumber-decimal n wide; back = ap (option_map number) (number_of-decimal n wide) }
integer_returns (negsuc n) f =
    let fits : n < 2 ^ 63 = f.sfits in
    record { numbers = IsNumber-signed_decimal (negsuc n) fits; back = ap (option_map number) (number_of-negative n fits) }

one_returns : (name : List ℕ) (d : Data) → Returns d → Returns (one name d)
one_returns name d h = record { numbers = (h.numbers, tt); back = rw h.back refl }

two_return : (d e : Data) → Returns d → Returns e → Returns (two d e)
two_return d e h k = record { numbers = (h.numbers, (k.numbers, tt)); back = rw (h.back, k.back) refl }

list_returns : (ds : List Data) → AllReturn ds → Returns (list_data ds)
list_returns ds h = record { numbers = h.numbers; back = ap (option_map array) h.back }

all_return : (d : Data) (ds : List Data) → Returns d → AllReturn ds → AllReturn (d ∷ ds)
all_return d ds h hs = record { numbers = (h.numbers, hs.numbers); back = rw (h.back, hs.back) refl }

mutual
  value_returns : (v : TraceValue) → IsHeldValue v → Returns (value_data v)
  value_returns v (IsHeldValue.text s h) = subst Returns (sym (str_data s)) (one_returns (codes "s") (text_data s) (text_returns s))
  value_returns v (IsHeldValue.integer i h) = subst Returns (sym (int_data i)) (one_returns (codes "i") (number (of_integer i)) (integer_returns i h))
  value_returns v (IsHeldValue.flag b) = subst Returns (sym (bool_data b)) (record { numbers = (tt, tt); back = refl })
  value_returns v (IsHeldValue.literal s h) = subst Returns (sym (lit_data s)) (one_returns (codes "e") (text_data s) (text_returns s))
  value_returns v (IsHeldValue.source model id h k) =
      subst Returns (sym (obj_data model id))
      (one_returns (codes "o") (two (text_data model) (text_data id))
      (two_return (text_data model) (text_data id) (text_returns model) (text_returns id)))
  value_returns v (IsHeldValue.target t h) = subst Returns (sym (target_data t)) (one_returns (codes "t") (term_data t) (term_returns t h))

  term_returns : (t : TraceTerm) → IsHeldTerm t → Returns (term_data t)
  term_returns t (IsHeldTerm.keyed class ps h hs) =
      subst Returns (sym (keyed_data class ps))
      (two_return (text_data class) (list_data (map pair_data ps)) (text_returns class) (list_returns (map pair_data ps) (pairs_return ps hs)))

  pair_returns : (p : TracePair) → IsHeldPair p → Returns (pair_data p)
  pair_returns p (IsHeldPair.named name v h k) =
      subst Returns (sym (named_data name v)) (two_return (text_data name) (value_data v) (text_returns name) (value_returns v k))

  pairs_return : (ps : List TracePair) → AreHeldPairs ps → AllReturn (map pair_data ps)
  pairs_return ps AreHeldPairs.none = record { numbers = tt; back = refl }
  pairs_return ps (AreHeldPairs.first p qs h hs) = all_return (pair_data p) (map pair_data qs) (pair_returns p h) (pairs_return qs hs)

each_returns : {X : Type 0} (f : X → Data) (Held : X → Type 0) → ((x : X) → Held x → Returns (f x))
    → (xs : List X) → ((k : ℕ) (d : X) → k < length xs → Held (get_or xs k d)) → AllReturn (map f xs)
each_returns f Held return [] h = record { numbers = tt; back = refl }
each_returns f Held return (x ∷ xs) h =
    all_return (f x) (map f xs) (return x (h 0 x (omega arith))) (each_returns f Held return xs (λ k d l. h (suc k) d (omega arith)))

demand_returns : (x : TraceDemand) → IsHeldDemand x → Returns (demand_data x)
demand_returns x h =
    let place = one_returns (codes "t") (term_data x.place) (term_returns x.place h.place) in
    let value = value_returns x.value h.value in
    record { numbers = (tt, (place.numbers, (value.numbers, tt))); back = rw (place.back, value.back) refl }

entry_returns : (x : TraceEntry) → IsHeldEntry x → Returns (entry_data x)
entry_returns x h =
    let demands = list_returns (map demand_data x.demands) (each_returns demand_data IsHeldDemand demand_returns x.demands h.demands) in
    let made = list_returns (map pair_data x.made) (pairs_return x.made h.made) in
    let values = list_returns (map pair_data x.values) (pairs_return x.values h.values) in
    record { numbers = (tt, (demands.numbers, (made.numbers, (tt, (values.numbers, tt))))); back = rw (demands.back, made.back, values.back) refl }

pub trace_returns : (t : Trace) → IsHeld t → Returns (trace_data t)
trace_returns t h =
    let entries = list_returns (map entry_data t.entries) (each_returns entry_data IsHeldEntry entry_returns t.entries h.entries) in
    let version = integer_returns (pos 1) (record { sfits = omega arith }) in
    record { numbers = (entries.numbers, (tt, (tt, (version.numbers, tt)))); back = rw (entries.back, version.back) refl }
