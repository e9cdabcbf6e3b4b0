-- The numbers of the rows of a join in which a binding may stand, as far as it has values.
use Rattle.std.specs.Prelude.{◌≡◌, ℕ, Bool, true, false, List, Option, None, Some, slice_get, Contains}
use Rattle.qvtr_semantics.specs.declared.datum.Datum.{Datum}
use Rattle.qvtr_semantics.specs.Templates.{Values, value_at}
use Rattle.template_match.specs.declared.join.Join.{Join}
use Rattle.template_match.specs.Joins.{may_row}

-- among the numbers are those of all rows in which the binding may stand
abbrev pub TellsRows : Join → Values → List ℕ → Type 0
TellsRows j a numbers = (r : ℕ) (row : List Datum) → slice_get j.table.now r ≡ Some row → may_row j.variables a row ≡ true → Contains numbers r

abbrev pub may_some_row : Join → Values → Option (List Datum) → Bool
may_some_row j a None = false
may_some_row j a (Some row) = may_row j.variables a row

abbrev pub may_number : Join → Values → ℕ → Bool
may_number j a r = may_some_row j a (slice_get j.table.now r)

-- the value of the variable, if there is one
abbrev pub variable_value : Values → Option ℕ → Option Datum
variable_value a None = None
variable_value a (Some v) = value_at a v

abbrev pub value_there : Values → Option (Option ℕ) → Option Datum
value_there a None = None
value_there a (Some o) = variable_value a o

-- that of a column's variable
abbrev pub column_value : List (Option ℕ) → Values → ℕ → Option Datum
column_value vs a k = value_there a (slice_get vs k)
