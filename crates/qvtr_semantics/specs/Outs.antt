-- What an operation may ask of a value of an expression, and what it gives. An operation that gets a part of another kind than
-- it asks for is invalid (OCL 2.4, section 11.2.3).
use Rattle.std.specs.Prelude.{ℕ, Bool, nat_le, List, [], ◌∷◌, length, ℤ, pos, negsuc, Option, None, Some, if◌then◌else◌}
use Rattle.std.specs.Option.{option_map}
use Rattle.qvtr_semantics.specs.declared.limits.TheConstants.{MAX_RESULT}
use Rattle.object_tables.specs.declared.value.Value.{Value}
use Rattle.object_tables.specs.declared.value.Value.TheVariants as values
use Rattle.qv_syntax.specs.declared.type_tree.Kind.{Kind}
use Rattle.qvtr_semantics.specs.declared.datum.Datum.{Datum}
use Rattle.qvtr_semantics.specs.declared.datum.Datum.TheVariants.{Obj, Val}
use Rattle.qvtr_semantics.specs.declared.out.Out.{Out}
use Rattle.qvtr_semantics.specs.declared.out.Out.TheVariants as outs

abbrev pub datum_of : Out → Option Datum
datum_of (outs.One d) = Some d
datum_of out = None

abbrev pub value_of_datum : Datum → Option Value
value_of_datum (Val m v) = Some v
value_of_datum (Obj m o) = None

abbrev pub integer_in : Value → Option ℤ
integer_in (values.Int i) = Some i
integer_in v = None

abbrev pub string_in : Value → Option (List ℕ)
string_in (values.Str s) = Some s
string_in v = None

abbrev pub boolean_in : Value → Option Bool
boolean_in (values.Bool b) = Some b
boolean_in v = None

-- what is found in what was found
abbrev pub and_then : {X Y : Type 0} → Option X → (X → Option Y) → Option Y
and_then None f = None
and_then (Some x) f = f x

abbrev pub integer_of_datum : Datum → Option ℤ
integer_of_datum d = and_then (value_of_datum d) integer_in

abbrev pub integer_of : Out → Option ℤ
integer_of out = and_then (datum_of out) integer_of_datum

abbrev pub string_of : Out → Option (List ℕ)
string_of out = and_then (datum_of out) (λ d. and_then (value_of_datum d) string_in)

-- null counts as invalid where a Boolean is asked for
abbrev pub boolean_of : Out → Option Bool
boolean_of out = and_then (datum_of out) (λ d. and_then (value_of_datum d) boolean_in)

-- the kind and the elements of a collection
pub record Collection : Type 0 where
  pub kind : Kind
  pub elements : List Datum

abbrev pub collection_of : Out → Option Collection
collection_of (outs.Many kind ds) = Some (record { kind = kind; elements = ds })
collection_of out = None

-- the result of an operation on a part of the kind that it asks for
abbrev pub given : {X : Type 0} → Option X → (X → Out) → Out
given None f = outs.Invalid
given (Some x) f = f x

-- a natural number, if the Integer is one
abbrev pub natural : ℤ → Option ℕ
natural (pos n) = Some n
natural (negsuc n) = None

abbrev pub boolean : Bool → Out
boolean b = outs.One (Val 0 (values.Bool b))

abbrev pub truth : Option Bool → Out
truth b = given b boolean

-- a text of at most so many characters as a result may have
abbrev pub string : List ℕ → Out
string s = if nat_le (length s) MAX_RESULT then outs.One (Val 0 (values.Str s)) else outs.Invalid

-- each of them, if none is missing
abbrev pub all_given : {X : Type 0} → List (Option X) → Option (List X)
all_given [] = Some []
all_given (None ∷ xs) = None
all_given (Some x ∷ xs) = option_map (λ ys. x ∷ ys) (all_given xs)
