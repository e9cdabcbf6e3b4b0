-- The rows of a table by the data in one of its columns (the order is this engine's own): which numbers of rows a search looks at.
use Rattle.std.specs.Prelude.{◌≡◌, ◌<◌, ℕ, Bool, List, [], ◌∷◌, Option, None, Some, length, slice_get, Contains}
use Rattle.std.specs.List.{flat_map}
use Rattle.std.specs.List.Sorted.{IsStrictlySortedBy}
use Rattle.std.specs.Ordering.{nat_cmp, ordering_then, is_eq}
use Rattle.std.specs.declared.cmp.Ordering.{Ordering}
use Rattle.qvtr_semantics.specs.declared.datum.Datum.{Datum}
use Rattle.template_match.specs.declared.column_order.ColumnOrder.{ColumnOrder}
use Rattle.template_match.specs.Order.{optional_order}

-- how many columns the first row has
abbrev pub width : List (List Datum) → ℕ
width [] = 0
width (row ∷ rows) = length row

-- the datum of a row in a column
abbrev pub cell_in : ℕ → Option (List Datum) → Option Datum
cell_in k None = None
cell_in k (Some row) = slice_get row k

abbrev pub cell_at : List (List Datum) → ℕ → ℕ → Option Datum
cell_at rows k r = cell_in k (slice_get rows r)

-- the datum alone, if there is one
abbrev pub one_datum : Option Datum → List Datum
one_datum None = []
one_datum (Some d) = d ∷ []

-- the data of rows in a column
abbrev pub cells_in : List (List Datum) → ℕ → List ℕ → List Datum
cells_in rows k numbers = flat_map (λ r. one_datum (cell_at rows k r)) numbers

-- numbers of rows by their data in a column, and then by themselves
abbrev pub next_order : List (List Datum) → ℕ → ℕ → ℕ → Ordering
next_order rows n r s = ordering_then (optional_order (cell_at rows n r) (cell_at rows n s)) (nat_cmp r s)

-- by their data in a column, and then in another one
abbrev pub row_order : List (List Datum) → ℕ → ℕ → ℕ → ℕ → Ordering
row_order rows k n r s = ordering_then (optional_order (cell_at rows k r) (cell_at rows k s)) (next_order rows n r s)

-- by their data in a column, and where these tie by another order
abbrev pub order_with_ties : List (List Datum) → ℕ → (ℕ → ℕ → Ordering) → ℕ → ℕ → Ordering
order_with_ties rows k ties r s = ordering_then (optional_order (cell_at rows k r) (cell_at rows k s)) (ties r s)

-- the datum of the row in the column is this one
abbrev pub is_with : List (List Datum) → ℕ → Datum → ℕ → Bool
is_with rows k d r = is_eq (optional_order (cell_at rows k r) (Some d))

-- the numbers of all rows in this order
pub record IsRowOrder (rows : List (List Datum)) (k n : ℕ) (numbers : List ℕ) : Type 0 where
  pub sorted : IsStrictlySortedBy (row_order rows k n) numbers
  pub all : (r : ℕ) → r < length rows → Contains numbers r

-- for each column one that begins with it
abbrev pub AreRowOrders : List (List Datum) → List ColumnOrder → Type 0
AreRowOrders rows orders = (k : ℕ) (o : ColumnOrder) → slice_get orders k ≡ Some o → IsRowOrder rows k o.next o.numbers
