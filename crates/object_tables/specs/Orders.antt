-- What a place is joined to, put in another order.
use Rattle.std.specs.Prelude.{◌≡◌, ℕ, List, map, slice_index, Contains, IsPermutation}
use Rattle.object_tables.specs.declared.tables.Home.{Home}
use Rattle.object_tables.specs.Rows.{Row, joined_at, with_joined}
use Rattle.object_tables.specs.Flat.{home_at}

-- no two of the places are of one object
abbrev pub AreOfObjects : List (ℕ × ℕ) → Type 0
AreOfObjects xs = (x y : ℕ × ℕ) → Contains xs x → Contains xs y → x.0 ≡ y.0 → x ≡ y

-- the places that a place is joined to stand in the order of a list of their objects
pub record IsReordered (old : List Row) (o k : ℕ) (order : List ℕ) (new : List Row) : Type 0 where
  pub joined : List (ℕ × ℕ)
  pub same : IsPermutation joined (joined_at old o k)
  pub objects : map (λ e. e.0) joined ≡ order
  pub is : new ≡ with_joined old o k (λ xs. joined)

-- the mark of each end's object is the end
abbrev pub IsMarkedFor : List Home → List ℕ → List ℕ → Type 0
IsMarkedFor homes marks ends = (e : ℕ) → Contains ends e → slice_index marks (home_at homes e).object ≡ e
