-- What the tables hold: a row for each number of an object, with a list of places. Each place holds values, and is joined to other places.
use Rattle.std.specs.Prelude.{zero, suc, ◌<◌, ◌≢◌, AllPairs, length, Contains, ℕ, ◌==◌, ◌&&◌, not, Bool, List, [], ◌∷◌, ◌++◌, map, filter, Option, None, Some, slice_index_or, replicate}
use Rattle.object_tables.specs.declared.value.Value.{Value}
use Rattle.object_tables.specs.declared.tables.Named.{Named}
use Rattle.object_tables.specs.Lists.{update_at}

-- the values at a place, and the places that it is joined to, each by the number of its object and its own
pub record Place : Type 0 where
  pub values : List Value
  pub joined : List (ℕ × ℕ)

-- an object with its places, or a number whose object is gone
pub record Row : Type 0 where
  pub named : Option Named
  pub places : List Place

abbrev pub no_place : Place
no_place = record { values = []; joined = [] }

abbrev pub no_row : Row
no_row = record { named = None; places = [] }

abbrev pub row_at : List Row → ℕ → Row
row_at rows o = slice_index_or rows o no_row

-- an object's place
abbrev pub place_at : List Row → ℕ → ℕ → Place
place_at rows o k = slice_index_or (row_at rows o).places k no_place

-- what a place is joined to
abbrev pub joined_at : List Row → ℕ → ℕ → List (ℕ × ℕ)
joined_at rows o k = (place_at rows o k).joined

-- one place changed
abbrev pub with_place : List Row → ℕ → ℕ → (Place → Place) → List Row
with_place rows o k f = update_at rows o (λ r. record r { places = update_at r.places k f })

-- what one place is joined to changed
abbrev pub with_joined : List Row → ℕ → ℕ → (List (ℕ × ℕ) → List (ℕ × ℕ)) → List Row
with_joined rows o k f = with_place rows o k (λ p. record p { joined = f p.joined })

-- another place stands last at this one
abbrev pub with_last : List Row → ℕ → ℕ → ℕ × ℕ → List Row
with_last rows o k x = with_joined rows o k (λ xs. xs ++ x ∷ [])

abbrev pub is_address : ℕ × ℕ → ℕ × ℕ → Bool
is_address x y = (y.0 == x.0) && (y.1 == x.1)

-- the list without a place
abbrev pub without_address : ℕ × ℕ → List (ℕ × ℕ) → List (ℕ × ℕ)
without_address x xs = filter (λ y. not (is_address x y)) xs

-- this place isn't joined to the other any more
abbrev pub without_join : List Row → ℕ → ℕ → ℕ × ℕ → List Row
without_join rows o k x = with_joined rows o k (without_address x)

-- other values stand at a place
abbrev pub with_values : List Row → ℕ → ℕ → List Value → List Row
with_values rows o k values = with_place rows o k (λ p. record p { values = values })

-- a new object, whose places hold and are joined to nothing
abbrev pub fresh_row : Named → ℕ → Row
fresh_row named count = record { named = Some named; places = replicate count no_place }

abbrev pub place_without : ℕ × ℕ → Place → Place
place_without x p = record p { joined = without_address x p.joined }

abbrev pub with_places : (Place → Place) → Row → Row
with_places f row = record row { places = map f row.places }

-- no place is joined to this one
abbrev pub row_without : ℕ × ℕ → Row → Row
row_without x row = with_places (place_without x) row

-- a place holds and is joined to nothing
abbrev pub cleared_place : List Row → ℕ → ℕ → List Row
cleared_place rows o k = with_values (with_joined (map (row_without (o, k)) rows) o k (λ xs. [])) o k []

-- the first n places of an object hold and are joined to nothing
abbrev pub cleared_upto : List Row → ℕ → ℕ → List Row
cleared_upto rows o zero = rows
cleared_upto rows o (suc n) = cleared_place (cleared_upto rows o n) o n

-- the object of a number is gone
abbrev pub unnamed : List Row → ℕ → List Row
unnamed rows o = update_at rows o (λ r. record r { named = None })

-- what a place is joined to is a place of the tables
abbrev pub IsRanged : List Row → Type 0
IsRanged rows = (o k : ℕ) (e : ℕ × ℕ) → Contains (joined_at rows o k) e → e.1 < length (row_at rows e.0).places

-- two places are joined to each other
abbrev pub IsMutual : List Row → Type 0
IsMutual rows = (o k : ℕ) (e : ℕ × ℕ) → Contains (joined_at rows o k) e → Contains (joined_at rows e.0 e.1) (o, k)

-- a place is joined to another once
abbrev pub IsSingle : List Row → Type 0
IsSingle rows = (o k : ℕ) → AllPairs (λ x y. x ≢ y) (joined_at rows o k)
