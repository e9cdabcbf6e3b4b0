-- Which bindings stand in rows of tables of matches (QVT 1.3, section 7.10.2). A join names, for each column of its table, the variable that
-- the column's data are for; a column without one says nothing.
use Rattle.std.specs.Prelude.{◌≡◌, ℕ, Bool, true, false, ◌&&◌, List, [], ◌∷◌, Option, None, Some, is_some, Contains}
use Rattle.std.specs.List.{list_any, list_all}
use Rattle.qvtr_semantics.specs.declared.datum.Datum.{Datum}
use Rattle.qvtr_semantics.specs.Templates.{Values, value_at}
use Rattle.template_match.specs.Pruning.{may_be_one}
use Rattle.template_match.specs.declared.join.Join.{Join}

-- each variable has the datum in its column
abbrev pub IsRowFor : List (Option ℕ) → Values → List Datum → Type 0
IsRowFor [] b row = Unit {0}
IsRowFor (o ∷ vs) b [] = ⊥
IsRowFor (None ∷ vs) b (d ∷ row) = IsRowFor vs b row
IsRowFor (Some v ∷ vs) b (d ∷ row) = (value_at b v ≡ Some d) × IsRowFor vs b row

-- the binding stands in a row of the table
abbrev pub IsJoined : Join → Values → Type 0
IsJoined j b = (row : List Datum) × Contains j.table.now row × IsRowFor j.variables b row

abbrev pub AreJoined : List Join → Values → Type 0
AreJoined joins b = (j : Join) → Contains joins j → IsJoined j b

-- ---- as tests

-- there is a datum, and it is that of the variable, if there is one and has a value
abbrev pub may_be_in : Values → Option ℕ → Option Datum → Bool
may_be_in a o None = false
may_be_in a None (Some d) = true
may_be_in a (Some v) (Some d) = may_be_one (value_at a v) (Some d)

-- each variable that has a value has the datum in its column
abbrev pub may_row : List (Option ℕ) → Values → List Datum → Bool
may_row [] a row = true
may_row (o ∷ vs) a [] = false
may_row (o ∷ vs) a (d ∷ row) = may_be_in a o (Some d) && may_row vs a row

abbrev pub may_join : Join → Values → Bool
may_join j a = list_any (may_row j.variables a) j.table.now

-- there is no variable, or it has a value
abbrev pub is_bound : Values → Option ℕ → Bool
is_bound a None = true
is_bound a (Some v) = is_some (value_at a v)

abbrev pub are_bound : List (Option ℕ) → Values → Bool
are_bound vs a = list_all (is_bound a) vs

abbrev pub is_joined : Join → Values → Bool
is_joined j b = are_bound j.variables b && may_join j b

abbrev pub are_joined : List Join → Values → Bool
are_joined joins b = list_all (λ j. is_joined j b) joins
