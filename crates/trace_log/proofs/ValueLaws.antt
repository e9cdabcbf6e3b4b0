-- Values, terms and pairs by the parts in which they are read, and that these nest less deep.
use Rattle.std.proofs.Common.{◌≡◌, ℕ, zero, suc, ◌<◌, ◌≤◌, ◌+◌, ◌*◌, List, [], ◌∷◌, length, get_or, refl, sym, ap, ◌∙◌, subst, arith, Option, None, Some, Ok, Err}
use Rattle.std.specs.Fmt.{decimal}
use Rattle.std.proofs.lemmas.Option.{same_Some, none-some}
use Rattle.serde_json.specs.Data.{Data, array, object, no_items, item, no_members, member, depth, items_depth}
use Rattle.serde_json.specs.Find.{as_str}
use Rattle.serde_json.specs.View.{view, items_view}
use Rattle.serde_json.specs.declared.value.Value.{Value}
use Rattle.trace_log.specs.declared.trace.TracePair.{TracePair}
use Rattle.trace_log.specs.declared.trace.TraceTerm.{TraceTerm}
use Rattle.trace_log.specs.declared.trace.TraceValue.{TraceValue}
use Rattle.trace_log.specs.Readings.{Reading, ◌>>=◌, at, sole_of, two_of, text_of}
use Rattle.trace_log.specs.TraceValues.{kind_of, value_by, named_by, term_by, value_of, term_of, keys_of, pair_of}

-- ---- by their parts

abbrev pub value_in : Option (List ℕ × Data) → Reading TraceValue
value_in (Some m) = value_by (kind_of m.0) m.1 (term_of m.1)
value_in None = Err []

pub value_parts : (d : Data) → value_of d ≡ value_in (sole_of d)
value_parts (object (member name d no_members)) = refl
value_parts d = refl

abbrev pub pair_in : Option (Data × Data) → Reading TracePair
pair_in (Some p) = do
  text ← at (decimal 0) (text_of p.0)
  named_by text (at (decimal 1) (value_of p.1))
pair_in None = Err []

pub pair_parts : (d : Data) → pair_of d ≡ pair_in (two_of d)
pair_parts (array (item d (item e no_items))) = refl
pair_parts d = refl

abbrev pub term_in : Option (Data × Data) → Reading TraceTerm
term_in (Some p) = term_by (as_str p.0) (keys_of p.1)
term_in None = Err []

pub term_parts : (d : Data) → term_of d ≡ term_in (two_of d)
term_parts (array (item d (item e no_items))) = refl
term_parts d = refl

-- a pair whose name is read
pub pair_named : (d first second : Data) (name : List ℕ) → Some (first, second) ≡ two_of d → at (decimal 0) (text_of first) ≡ Ok name
    → pair_of d ≡ named_by name (at (decimal 1) (value_of second))
pair_named d first second name e f =
    pair_parts d ∙ ap pair_in (sym e) ∙ ap (λ (r : Reading (List ℕ)). r >>= (λ text. named_by text (at (decimal 1) (value_of second)))) f

-- a term whose class is named
pub term_keyed : (d first second : Data) (class : List ℕ) → Some (first, second) ≡ two_of d → Some class ≡ as_str first
    → term_of d ≡ term_by (Some class) (keys_of second)
term_keyed d first second class e f =
    term_parts d ∙ ap term_in (sym e) ∙ ap (λ (o : Option (List ℕ)). term_by o (keys_of second)) (sym f)

-- ---- depth

pub sole_nests : (d : Data) (m : List ℕ × Data) → Some m ≡ sole_of d → depth m.1 < depth d
sole_nests (object (member name d no_members)) m e =
    subst (λ (p : List ℕ × Data). depth p.1 < depth (object (member name d no_members))) (same_Some (name, d) m (sym e)) (omega arith)
sole_nests d m e = absurd (none-some m (sym e))

pub two_nest : (d : Data) (p : Data × Data) → Some p ≡ two_of d → depth p.1 < depth d
two_nest (array (item d (item f no_items))) p e =
    subst (λ (q : Data × Data). depth q.1 < depth (array (item d (item f no_items)))) (same_Some (d, f) p (sym e)) (omega arith)
two_nest d p e = absurd (none-some p (sym e))

pub items_nest : (vs : List Value) (i : ℕ) (v : Value) → i < length vs → depth (view (get_or vs i v)) ≤ items_depth (items_view vs)
items_nest [] i v h = absurd (omega arith)
items_nest (w ∷ vs) zero v h = omega arith
items_nest (w ∷ vs) (suc i) v h = let rest = items_nest vs i v (omega arith) in omega (arith, rest)

-- what a call in a loop needs
pub item_calls : (vs : List Value) (i : ℕ) (v : Value) → i < length vs → v ≡ get_or vs i v → 3 * depth (view v) < 3 * items_depth (items_view vs) + 1
item_calls vs i v h e =
    let less : depth (view v) ≤ items_depth (items_view vs) = subst (λ (w : Value). depth (view w) ≤ items_depth (items_view vs)) (sym e) (items_nest vs i v h) in
    omega (arith, less)
