-- Where the bindings of an entry begin: with what the sources give, and with the terms of the roots (QVT 1.3, sections 7.10.1 and
-- 7.11.1.4; terms and their numbers are this engine's own).
use Rattle.std.specs.Prelude.{ℕ, Bool, true, false, List, [], ◌∷◌, map, Option, None, Some, slice_index_or, if◌then◌else◌}
use Rattle.std.specs.Option.{option_map}
use Rattle.qvtr_semantics.specs.declared.datum.Datum.{Datum}
use Rattle.qvtr_semantics.specs.Objects.{object_datum}
use Rattle.qvtr_semantics.specs.Templates.{Values}
use Rattle.term_table.specs.declared.numbered.NumberedValue.{NumberedValue}
use Rattle.term_table.specs.declared.numbered.NumberedValue.TheVariants as numbered

-- the values of the variables of a relation, terms by their numbers
abbrev pub NumberedValues : Type 0
NumberedValues = List (Option NumberedValue)

-- the value of a variable
abbrev pub number_of : NumberedValues → ℕ → Option NumberedValue
number_of b v = slice_index_or b v None

-- the value is a term
abbrev pub is_term : NumberedValue → Bool
is_term (numbered.Val d) = false
is_term (numbered.Term n) = true

abbrev pub has_term : Option NumberedValue → Bool
has_term None = false
has_term (Some x) = is_term x

-- ---- what the search in the sources is given

-- a term stands there as an object of the target, of which nothing in the sources speaks
abbrev pub fixed_value : ℕ → NumberedValue → Datum
fixed_value target (numbered.Val d) = d
fixed_value target (numbered.Term n) = object_datum target 0

abbrev pub fixed_values : ℕ → NumberedValues → Values
fixed_values target roots = map (option_map (fixed_value target)) roots

-- ---- what it finds

-- the data that are found, but for what stands there for the terms of roots
abbrev pub datum_beside : Option NumberedValue → Option Datum → Option Datum
datum_beside root d = if has_term root then None else d

abbrev pub data_beside : NumberedValues → Values → Values
data_beside [] ds = ds
data_beside (r ∷ rs) [] = []
data_beside (r ∷ rs) (d ∷ ds) = datum_beside r d ∷ data_beside rs ds

-- the terms of roots, and elsewhere the data that are found
abbrev pub value_beside : Option NumberedValue → Option Datum → Option NumberedValue
value_beside root d = if has_term root then root else option_map numbered.Val d

abbrev pub start_of : NumberedValues → Values → NumberedValues
start_of [] ds = map (option_map numbered.Val) ds
start_of (r ∷ rs) [] = []
start_of (r ∷ rs) (d ∷ ds) = value_beside r d ∷ start_of rs ds
