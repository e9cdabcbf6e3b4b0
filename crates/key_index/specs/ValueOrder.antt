-- An order of the values of attributes: Strings, Integers, Booleans with false before true, literals by their enumeration and then by
-- their number (the order is this engine's own).
use Rattle.std.specs.Prelude.{ℕ}
use Rattle.std.specs.Ordering.{nat_cmp, int_cmp, bool_cmp, ordering_then}
use Rattle.std.specs.declared.cmp.Ordering.{Ordering}
use Rattle.mof_metamodel.specs.Characters.{text_cmp}
use Rattle.object_tables.specs.declared.value.Value.{Value}
use Rattle.object_tables.specs.declared.value.Value.TheVariants as values

abbrev pub kind_number : Value → ℕ
kind_number (values.Str s) = 0
kind_number (values.Int i) = 1
kind_number (values.Bool b) = 2
kind_number (values.Lit e n) = 3

abbrev pub value_order : Value → Value → Ordering
value_order (values.Str s) (values.Str t) = text_cmp s t
value_order (values.Int i) (values.Int j) = int_cmp i j
value_order (values.Bool b) (values.Bool c) = bool_cmp b c
value_order (values.Lit e n) (values.Lit f k) = ordering_then (nat_cmp e.0 f.0) (nat_cmp n k)
value_order v w = nat_cmp (kind_number v) (kind_number w)
