-- How rows are kept in flat tables: an object's places stand one after another. A place that has been joined to another is an end of
-- the arena of links, and the table of ends has its number; the other places have no end, and the number 0, at which nothing is joined.
use Rattle.std.specs.Prelude.{◌≡◌, ◌≢◌, ℕ, ◌+◌, ◌<◌, ◌≤◌, ◌^◌, ◌==◌, count_by, List, [], ◌∷◌, map, length, slice_index_or, None}
use Prim.Native.Nat.{zero, suc}
use Rattle.object_tables.specs.declared.value.Value.{Value}
use Rattle.object_tables.specs.declared.tables.Entry.{Entry}
use Rattle.object_tables.specs.declared.tables.Home.{Home}
use Rattle.object_tables.specs.Rows.{Place, Row}

abbrev pub no_home : Home
no_home = record { object = 0; place = 0 }

abbrev pub no_entry : Entry
no_entry = record { named = None; first = 0; count = 0 }

abbrev pub home_at : List Home → ℕ → Home
home_at homes end = slice_index_or homes end no_home

abbrev pub entry_at : List Entry → ℕ → Entry
entry_at entries o = slice_index_or entries o no_entry

-- whose place an end is, and which of them
abbrev pub address : List Home → ℕ → ℕ × ℕ
address homes end = ((home_at homes end).object, (home_at homes end).place)

-- what the place of a number is joined to
abbrev pub joined_of : List ℕ → List Home → List (List ℕ) → ℕ → List (ℕ × ℕ)
joined_of index homes links n = map (address homes) (slice_index_or links (slice_index_or index n 0) [])

-- the place of a number
abbrev pub place_of : List (List Value) → List ℕ → List Home → List (List ℕ) → ℕ → Place
place_of values index homes links n = record { values = slice_index_or values n []; joined = joined_of index homes links n }

-- so many places from one on
abbrev pub block : (ℕ → Place) → ℕ → ℕ → List Place
block at first zero = []
block at first (suc n) = at first ∷ block at (suc first) n

abbrev pub row_of : (ℕ → Place) → Entry → Row
row_of at entry = record { named = entry.named; places = block at entry.first entry.count }

abbrev pub rows_of : List Entry → List (List Value) → List ℕ → List Home → List (List ℕ) → List Row
rows_of entries values index homes links = map (row_of (place_of values index homes links)) entries

-- the number names an object, and this place is one of its places
pub record IsSpot (entries : List Entry) (o k : ℕ) : Type 0 where
  pub object : o < length entries
  pub place : k < (entry_at entries o).count

-- the number of a place
abbrev pub number_at : List Entry → ℕ → ℕ → ℕ
number_at entries o k = (entry_at entries o).first + k

-- the end that a place is, or 0
abbrev pub end_at : List Entry → List ℕ → ℕ → ℕ → ℕ
end_at entries index o k = slice_index_or index (number_at entries o k) 0

-- each object's places have numbers of their own, each end knows whose place it is, and the arena has an end for each
pub record IsFlat (entries : List Entry) (index : List ℕ) (homes : List Home) (links : List (List ℕ)) : Type 0 where
  pub ends : length links ≡ length homes
  pub small : length index + 1 < 2 ^ 32
  pub placed : (o : ℕ) → o < length entries → (entry_at entries o).first + (entry_at entries o).count ≤ length index
  pub sorted : (o i : ℕ) → o < i → i < length entries → (entry_at entries o).first + (entry_at entries o).count ≤ (entry_at entries i).first
  pub listed : (n : ℕ) → n < length index → slice_index_or index n 0 < length homes
  pub few : count_by (λ i. i == 0) index + length homes ≤ length index + 1
  pub blank : slice_index_or links 0 [] ≡ []
  pub known : (o k : ℕ) → o < length entries → k < (entry_at entries o).count → end_at entries index o k ≢ 0 → address homes (end_at entries index o k) ≡ (o, k)
  pub owned : (end : ℕ) → end < length homes → end ≢ 0 → (home_at homes end).object < length entries
  pub within : (end : ℕ) → end < length homes → end ≢ 0 → (home_at homes end).place < (entry_at entries (home_at homes end).object).count
  pub found : (end : ℕ) → end < length homes → end ≢ 0 → end_at entries index (home_at homes end).object (home_at homes end).place ≡ end

-- places have been given ends, and nothing is joined to another place than before
pub record IsGrown (entries : List Entry) (index : List ℕ) (homes : List Home) (links : List (List ℕ)) (new_index : List ℕ) (new_homes : List Home) (new_links : List (List ℕ)) : Type 0 where
  pub flat : IsFlat entries new_index new_homes new_links
  pub length_is : length new_index ≡ length index
  pub seen : (n : ℕ) → n < length index → joined_of new_index new_homes new_links n ≡ joined_of index homes links n
  pub kept : (n : ℕ) → slice_index_or index n 0 ≢ 0 → slice_index_or new_index n 0 ≡ slice_index_or index n 0
