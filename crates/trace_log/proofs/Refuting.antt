-- Wrong texts of traces, a wrong reading and a wrong height, that the definitions exclude.
use Rattle.std.proofs.Common.{◌≡◌, ℕ, List, [], ◌∷◌, ◌++◌, length, get_or, ap, refl, sym, ◌∙◌, arith, length-append}
use Rattle.std.specs.Prelude.{true, map, codes, Ok, Err}
use Rattle.serde_json.specs.Data.{unsigned, Data, null, number, array, object, item, no_items, Members, member}
use Rattle.serde_json.specs.Written.{compact_text}
use Rattle.trace_log.specs.declared.trace.Trace.{Trace}
use Rattle.trace_log.specs.declared.trace.TraceEntry.{TraceEntry}
use Rattle.trace_log.specs.declared.trace.TraceValue.TheVariants as values
use Rattle.trace_log.specs.TraceValues.{pair, term}
use Rattle.trace_log.specs.TraceEntries.{version_of}
use Rattle.trace_log.specs.TraceData.{list_data, value_data, pair_data, entry_data, trace_data, text_of_trace}
use Rattle.trace_log.specs.TraceHeights.{height_of_term}
use Rattle.trace_log.proofs.DataLaws.{str_data, lit_data, keyed_height}

-- the first letter of the first member's name, and of the second's
abbrev first_letter : Data → ℕ
first_letter (object (member name d ms)) = get_or name 0 0
first_letter d = 0

abbrev second_letter : Data → ℕ
second_letter (object (member k d (member name e ms))) = get_or name 0 0
second_letter d = 0

-- the line has no end
pub no_line_feed : (t : Trace) → text_of_trace t ≡ compact_text (trace_data t) → ⊥
no_line_feed t e =
    let text = compact_text (trace_data t) in
    let same : length (text ++ 10 ∷ []) ≡ length text = ap length e in
    omega (arith, same, length-append text (10 ∷ []))

-- a literal is written as a text
pub literal_as_text : (s : List ℕ) → value_data (values.Lit s) ≡ value_data (values.Str s) → ⊥
literal_as_text s e = let wrong : ◌≡◌ {A = ℕ} 101 115 = ap first_letter (sym (lit_data s) ∙ e ∙ str_data s) in omega arith

-- the demands of an entry are left out
pub no_demands : (x : TraceEntry) (called made : Data) (ms : Members)
    → entry_data x ≡ object (member (codes "called") called (member (codes "made") made ms)) → ⊥
no_demands x called made ms e = let wrong : ◌≡◌ {A = ℕ} 100 109 = ap second_letter e in omega arith

-- an entry that made nothing
abbrev one_value : TraceEntry
one_value = record { relation = codes "R"; called = true; values = pair (codes "v") (values.Bool true) ∷ []; made = []; demands = [] }

-- the third member of an object
abbrev third_member : Data → Data
third_member (object (member k d (member l e (member m third ms)))) = third
third_member d = null

abbrev item_count : Data → ℕ
item_count (array (item d ds)) = 1
item_count d = 0

pub nothing_made : third_member (entry_data one_value) ≡ array no_items
nothing_made = refl

-- the values of an entry are told as what it made
pub values_as_made : third_member (entry_data one_value) ≡ list_data (map pair_data one_value.values) → ⊥
values_as_made e = let wrong : ◌≡◌ {A = ℕ} 0 1 = ap item_count e in omega arith

-- a transformation stands before its entries
pub other_order : (t : Trace) (d : Data) (ms : Members) → trace_data t ≡ object (member (codes "transformation") d ms) → ⊥
other_order t d ms e = let wrong : ◌≡◌ {A = ℕ} 101 116 = ap first_letter e in omega arith

-- a term without keys has no height
pub no_height : (class : List ℕ) → height_of_term (term class []) ≡ 0 → ⊥
no_height class e = let wrong : ◌≡◌ {A = ℕ} 1 0 = sym (keyed_height class []) ∙ e in omega arith

pub other_version : version_of (number (unsigned 2)) ≡ Err []
other_version = refl

-- any version is read
pub any_version : version_of (number (unsigned 2)) ≡ Ok tt → ⊥
any_version e = cc
