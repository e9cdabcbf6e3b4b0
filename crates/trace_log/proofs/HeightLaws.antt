-- How deep what is written of a trace nests, by the height of its terms: four levels for each, and seven more.
use Rattle.std.proofs.Common.{◌≡◌, ℕ, suc, max, ◌<◌, ◌≤◌, ◌+◌, ◌*◌, List, [], ◌∷◌, length, get_or, map, ap, ap₂, refl, arith}
use Rattle.std.specs.Prelude.{codes}
use Rattle.json.specs.Tree as tree
use Rattle.serde_json.specs.Data.{Data, null, boolean, number, string, array, object, Items, no_items, item, Members, no_members, member, depth, items_depth, members_depth}
use Rattle.serde_json.specs.Find.{of_integer}
use Rattle.serde_json.specs.Read.{max_depth}
use Rattle.serde_json.specs.View.{items_of}
use Rattle.serde_json.specs.Written.{outline, items_outline, members_outline}
use Rattle.trace_log.specs.declared.trace.Trace.{Trace}
use Rattle.trace_log.specs.declared.trace.TraceDemand.{TraceDemand}
use Rattle.trace_log.specs.declared.trace.TraceEntry.{TraceEntry}
use Rattle.trace_log.specs.declared.trace.TracePair.{TracePair}
use Rattle.trace_log.specs.declared.trace.TraceTerm.{TraceTerm}
use Rattle.trace_log.specs.declared.trace.TraceValue.{TraceValue}
use Rattle.trace_log.specs.declared.trace.TraceValue.TheVariants as values
use Rattle.trace_log.specs.TraceForms.{one, two}
use Rattle.trace_log.specs.TraceData.{text_data, value_data, pair_data, term_data, demand_data, entry_data, trace_data}
use Rattle.trace_log.specs.TraceHeights.{greatest, height_of_value, height_of_pair, height_of_term, height_of_demand, height_of_entry, IsLow}
use Rattle.trace_log.specs.TraceHeld.{IsHeldValue, IsHeldTerm, IsHeldPair, AreHeldPairs, IsHeldDemand, IsHeldEntry, IsHeld}
use Rattle.trace_log.proofs.DataLaws.{str_data, int_data, bool_data, lit_data, obj_data, target_data, named_data, keyed_data, target_height, named_height, keyed_height}

-- ---- the JSON of a value nests as deep as the value

mutual
  pub same_depth : (d : Data) → tree.depth (outline d) ≡ depth d
  same_depth null = refl
  same_depth (boolean b) = refl
  same_depth (number n) = refl
  same_depth (string s) = refl
  same_depth (array ds) = ap suc (items_same_depth ds)
  same_depth (object ms) = ap suc (members_same_depth ms)

  items_same_depth : (ds : Items) → tree.items_depth (items_outline ds) ≡ items_depth ds
  items_same_depth no_items = refl
  items_same_depth (item d ds) = ap₂ max (same_depth d) (items_same_depth ds)

  members_same_depth : (ms : Members) → tree.members_depth (members_outline ms) ≡ members_depth ms
  members_same_depth no_members = refl
  members_same_depth (member k d ms) = ap₂ max (same_depth d) (members_same_depth ms)

-- ---- depth by height

-- a value of JSON of one level or two
flat_value : (v : TraceValue) (d : Data) → value_data v ≡ d → depth d ≤ 2 → depth (value_data v) ≤ 4 * height_of_value v + 2
flat_value v d e h = let same : depth (value_data v) ≡ depth d = ap depth e in omega arith

mutual
  value_below : (v : TraceValue) → IsHeldValue v → depth (value_data v) ≤ 4 * height_of_value v + 2
  value_below v (IsHeldValue.text s h) = flat_value (values.Str s) (one (codes "s") (text_data s)) (str_data s) (omega arith)
  value_below v (IsHeldValue.integer i h) = flat_value (values.Int i) (one (codes "i") (number (of_integer i))) (int_data i) (omega arith)
  value_below v (IsHeldValue.flag b) = flat_value (values.Bool b) (one (codes "b") (boolean b)) (bool_data b) (omega arith)
  value_below v (IsHeldValue.literal s h) = flat_value (values.Lit s) (one (codes "e") (text_data s)) (lit_data s) (omega arith)
  value_below v (IsHeldValue.source model id h k) =
      flat_value (values.Obj model id) (one (codes "o") (two (text_data model) (text_data id))) (obj_data model id) (omega arith)
  value_below v (IsHeldValue.target t h) =
      let same : depth (value_data (values.Term t)) ≡ depth (one (codes "t") (term_data t)) = ap depth (target_data t) in
      let high : height_of_value (values.Term t) ≡ height_of_term t = target_height t in
      let rest : depth (term_data t) ≤ 4 * height_of_term t + 1 = term_below t h in
      omega arith

  term_below : (t : TraceTerm) → IsHeldTerm t → depth (term_data t) ≤ 4 * height_of_term t + 1
  term_below t (IsHeldTerm.keyed class ps h hs) =
      let same : depth (term_data _) ≡ suc (max 0 (max (suc (items_depth (items_of (map pair_data ps)))) 0)) = ap depth (keyed_data class ps) in
      let high = keyed_height class ps in
      let rest = pairs_below ps hs in
      omega arith

  pair_below : (p : TracePair) → IsHeldPair p → depth (pair_data p) ≤ 4 * height_of_pair p + 3
  pair_below p (IsHeldPair.named name v h k) =
      let same : depth (pair_data _) ≡ suc (max 0 (max (depth (value_data v)) 0)) = ap depth (named_data name v) in
      let high = named_height name v in
      let rest = value_below v k in
      omega arith

  pub pairs_below : (ps : List TracePair) → AreHeldPairs ps → items_depth (items_of (map pair_data ps)) ≤ 4 * greatest (map height_of_pair ps) + 3
  pairs_below ps AreHeldPairs.none = omega arith
  pairs_below ps (AreHeldPairs.first p qs h hs) = let one = pair_below p h in let rest = pairs_below qs hs in omega arith

-- each of a list
each_below : {X : Type 0} (f : X → Data) (of : X → ℕ) (n : ℕ) (Held : X → Type 0) → ((x : X) → Held x → depth (f x) ≤ 4 * of x + n)
    → (xs : List X) → ((k : ℕ) (d : X) → k < length xs → Held (get_or xs k d)) → items_depth (items_of (map f xs)) ≤ 4 * greatest (map of xs) + n
each_below f of n Held below [] h = omega arith
each_below f of n Held below (x ∷ xs) h =
    let one = below x (h 0 x (omega arith)) in
    let rest = each_below f of n Held below xs (λ k d l. h (suc k) d (omega arith)) in
    omega arith

demand_below : (x : TraceDemand) → IsHeldDemand x → depth (demand_data x) ≤ 4 * height_of_demand x + 3
demand_below x h = let place = term_below x.place h.place in let value = value_below x.value h.value in omega arith

entry_below : (x : TraceEntry) → IsHeldEntry x → depth (entry_data x) ≤ 4 * height_of_entry x + 5
entry_below x h =
    let demands = each_below demand_data height_of_demand 3 IsHeldDemand demand_below x.demands h.demands in
    let made = pairs_below x.made h.made in
    let values = pairs_below x.values h.values in
    omega arith

pub trace_below : (t : Trace) → IsHeld t → IsLow t → depth (trace_data t) ≤ max_depth
trace_below t h low = let entries = each_below entry_data height_of_entry 5 IsHeldEntry entry_below t.entries h.entries in omega arith
