-- Single values: when two are one, and which stands before which (OCL 2.4, section 11.5; the order is this engine's).
use Rattle.std.specs.Prelude.{ℕ, Bool, true, false, ◌&&◌, ◌||◌, not, ◌==◌, nat_eq, nat_lt, int_lt, List, [], ◌∷◌, if◌then◌else◌}
use Rattle.std.specs.Bool.{beq}
use Rattle.std.specs.List.{list_any}
use Rattle.std.specs.Ordering.{is_lt, int_eq}
use Rattle.std.specs.Cmp.Lexicographic.{pointwise}
use Rattle.mof_metamodel.specs.Characters.{text_cmp}
use Rattle.object_tables.specs.declared.value.Value.{Value}
use Rattle.object_tables.specs.declared.value.Value.TheVariants as values
use Rattle.qvtr_semantics.specs.declared.datum.Datum.{Datum}
use Rattle.qvtr_semantics.specs.declared.datum.Datum.TheVariants.{Obj, Val}

abbrev pub same_value : Value → Value → Bool
same_value (values.Str s) (values.Str t) = pointwise nat_eq s t
same_value (values.Int i) (values.Int j) = int_eq i j
same_value (values.Bool b) (values.Bool c) = beq b c
same_value (values.Lit e n) (values.Lit f k) = (e.0 == f.0) && (n == k)
same_value v w = false

abbrev pub same_datum : Datum → Datum → Bool
same_datum (Obj m o) (Obj n p) = (m == n) && (o.0 == p.0)
same_datum (Val m v) (Val n w) = (m == n) && same_value v w
same_datum d e = false

-- the place of a kind of values among the kinds
abbrev pub kind_number : Value → ℕ
kind_number (values.Str s) = 0
kind_number (values.Int i) = 1
kind_number (values.Bool b) = 2
kind_number (values.Lit e n) = 3

-- Strings by their bytes in UTF-8, Integers by value, false before true, literals by their place
abbrev pub is_value_before : Value → Value → Bool
is_value_before (values.Str s) (values.Str t) = is_lt (text_cmp s t)
is_value_before (values.Int i) (values.Int j) = int_lt i j
is_value_before (values.Bool b) (values.Bool c) = not b && c
is_value_before (values.Lit e n) (values.Lit f k) = nat_lt e.0 f.0 || ((e.0 == f.0) && nat_lt n k)
is_value_before v w = nat_lt (kind_number v) (kind_number w)

-- objects by the place of their model in the script and then by number; they come before values
abbrev pub is_before : Datum → Datum → Bool
is_before (Obj m o) (Obj n p) = nat_lt m n || ((m == n) && nat_lt o.0 p.0)
is_before (Obj m o) (Val n w) = true
is_before (Val m v) (Obj n p) = false
is_before (Val m v) (Val n w) = nat_lt m n || ((m == n) && is_value_before v w)

-- the datum stands in the list
abbrev pub is_among : Datum → List Datum → Bool
is_among d ds = list_any (same_datum d) ds

-- the datum at its place in a list in value order
abbrev pub placed : Datum → List Datum → List Datum
placed d [] = d ∷ []
placed d (e ∷ es) = if is_before e d then e ∷ placed d es else d ∷ e ∷ es

-- the data in value order
abbrev pub in_order : List Datum → List Datum
in_order [] = []
in_order (d ∷ ds) = placed d (in_order ds)

-- the data that don't stand in the list of those that were met, each at its first place
abbrev pub new_ones : List Datum → List Datum → List Datum
new_ones met [] = []
new_ones met (d ∷ ds) = if is_among d met then new_ones met ds else d ∷ new_ones (d ∷ met) ds

-- each datum at its first place
abbrev pub distinct : List Datum → List Datum
distinct ds = new_ones [] ds
