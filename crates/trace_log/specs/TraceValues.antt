-- Values of a trace as JSON: an object of one member, whose name says what its content is: `s` a text, `i` an integer of 64 bits with a
-- sign, `b` a Boolean, `e` the name of a literal, `o` a list of the name of a model and the identifier of an object, and `t` a list of the
-- name of a class and of pairs of a property and a value. A value is amiss as a whole where it isn't of this form, with its path; the
-- values within a term count for themselves, behind it.
use Rattle.std.specs.Prelude.{ℕ, suc, ℤ, List, [], ◌∷◌, ◌++◌, Bool, true, false, bytes_eq, codes, chars, is_some, Option, None, Some, Ok, Err, if◌then◌else◌}
use Rattle.std.specs.Fmt.{decimal}
use Rattle.std.specs.Option.{option_and_then}
use Rattle.serde_json.specs.Data.{Data, array, object, Items, no_items, item, no_members, member}
use Rattle.serde_json.specs.Find.{as_number, as_str, as_i64}
use Rattle.trace_log.specs.declared.trace.TracePair.{TracePair, roll-TracePair}
use Rattle.trace_log.specs.declared.trace.TraceTerm.{TraceTerm, roll-TraceTerm}
use Rattle.trace_log.specs.declared.trace.TraceValue.{TraceValue}
use Rattle.trace_log.specs.declared.trace.TraceValue.TheVariants as values
use Rattle.trace_log.specs.declared.trace_values.Kind.{Kind}
use Rattle.trace_log.specs.declared.trace_values.Kind.TheVariants as kinds
use Rattle.trace_log.specs.Readings.{Reading, ◌>>=◌, at, sole_of, two_of, text_of, flag_of}

abbrev pub pair : List ℕ → TraceValue → TracePair
pair name value = roll-TracePair (record { name = name; value = value })

abbrev pub term : List ℕ → List TracePair → TraceTerm
term class keys = roll-TraceTerm (record { class = class; keys = keys })

-- what the content of a value is, by the name of its member
abbrev pub kind_of : List ℕ → Option Kind
kind_of name =
    if bytes_eq name (codes "s") then Some kinds.Str
    else (if bytes_eq name (codes "i") then Some kinds.Int
    else (if bytes_eq name (codes "b") then Some kinds.Bool
    else (if bytes_eq name (codes "e") then Some kinds.Lit
    else (if bytes_eq name (codes "o") then Some kinds.Obj else (if bytes_eq name (codes "t") then Some kinds.Term else None)))))

abbrev pub integer_of : Option ℤ → Reading TraceValue
integer_of (Some i) = Ok (values.Int i)
integer_of None = Err []

abbrev pub source_of : Option (List ℕ) → Option (List ℕ) → Reading TraceValue
source_of (Some model) (Some id) = Ok (values.Obj (chars model) (chars id))
source_of (Some model) None = Err []
source_of None id = Err []

abbrev pub source_in : Option (Data × Data) → Reading TraceValue
source_in (Some p) = source_of (as_str p.0) (as_str p.1)
source_in None = Err []

-- a value that is no term, by its content
abbrev pub plain_of : Option Kind → Data → Reading TraceValue
plain_of (Some kinds.Str) d = do
  text ← text_of d
  Ok (values.Str text)
plain_of (Some kinds.Int) d = integer_of (option_and_then as_i64 (as_number d))
plain_of (Some kinds.Bool) d = do
  flag ← flag_of d
  Ok (values.Bool flag)
plain_of (Some kinds.Lit) d = do
  text ← text_of d
  Ok (values.Lit text)
plain_of (Some kinds.Obj) d = source_in (two_of d)
plain_of (Some kinds.Term) d = Err []
plain_of None d = Err []

-- whether a list of two begins with a text
abbrev pub begins_text : Option (Data × Data) → Bool
begins_text (Some p) = is_some (as_str p.0)
begins_text None = false

-- each item is a list of a text and something else
abbrev pub are_pairs : Items → Bool
are_pairs no_items = true
are_pairs (item d ds) = if begins_text (two_of d) then are_pairs ds else false

-- a value by its kind, its content, and the term that the content is
abbrev pub value_by : Option Kind → Data → Reading TraceTerm → Reading TraceValue
value_by (Some kinds.Term) d t = do
  is ← t
  Ok (values.Term is)
value_by kind d t = plain_of kind d

-- a term by the name of its class, if it is a text, and its pairs
abbrev pub term_by : Option (List ℕ) → Reading (List TracePair) → Reading TraceTerm
term_by (Some class) pairs = do
  keys ← pairs
  Ok (term (chars class) keys)
term_by None pairs = Err []

-- a pair of this name and a value
abbrev pub named_by : List ℕ → Reading TraceValue → Reading TracePair
named_by name value = do
  is ← value
  Ok (pair name is)

abbrev mutual
  pub value_of : Data → Reading TraceValue
  value_of (object (member name d no_members)) = value_by (kind_of name) d (term_of d)
  value_of d = Err []

  -- a term by the content of the value
  pub term_of : Data → Reading TraceTerm
  term_of (array (item class (item keys no_items))) = term_by (as_str class) (keys_of keys)
  term_of d = Err []

  -- the pairs of a term, if the list has the form
  pub keys_of : Data → Reading (List TracePair)
  keys_of (array ds) = if are_pairs ds then at (chars (codes "t")) (at (decimal 1) (pairs_of [] 0 ds)) else Err []
  keys_of d = Err []

  pub pair_of : Data → Reading TracePair
  pair_of (array (item name (item d no_items))) = do
    text ← at (decimal 0) (text_of name)
    named_by text (at (decimal 1) (value_of d))
  pair_of d = Err []

  -- pairs from a number on, behind those that were read before
  pub pairs_of : List TracePair → ℕ → Items → Reading (List TracePair)
  pairs_of done place no_items = Ok done
  pairs_of done place (item d ds) = do
    p ← at (decimal place) (pair_of d)
    pairs_of (done ++ p ∷ []) (suc place) ds

-- a list of pairs
abbrev pub bindings_of : Data → Reading (List TracePair)
bindings_of (array ds) = pairs_of [] 0 ds
bindings_of d = Err []

-- a value that is a term
abbrev pub place_by : Option Kind → Reading TraceTerm → Reading TraceTerm
place_by (Some kinds.Term) t = t
place_by kind t = Err []

abbrev pub place_in : Option (List ℕ × Data) → Reading TraceTerm
place_in (Some m) = place_by (kind_of m.0) (term_of m.1)
place_in None = Err []

abbrev pub place_of : Data → Reading TraceTerm
place_of d = place_in (sole_of d)
