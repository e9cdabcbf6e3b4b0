-- How the values of places are stored: only those of the places that have been given some, each by a number that the place has.
use Rattle.std.specs.Prelude.{◌≡◌, ◌≢◌, ℕ, ◌+◌, ◌<◌, ◌≤◌, ◌^◌, ◌==◌, List, [], map, length, count_by, slice_index_or}
use Rattle.object_tables.specs.declared.value.Value.{Value}

-- lists of values
abbrev pub Lists : Type 0
Lists = List (List Value)

-- the values of each place
abbrev pub stored : List ℕ → List (List Value) → List (List Value)
stored index lists = map (λ i. slice_index_or lists i []) index

-- a place without values has the number 0, which is that of no values; there is room for the values of every place
pub record IsStored (index : List ℕ) (lists : List (List Value)) (capacity : ℕ) : Type 0 where
  pub small : length index < 2 ^ 32
  pub within : (n : ℕ) → n < length index → slice_index_or index n 0 < length lists
  pub blank : slice_index_or lists 0 [] ≡ []
  pub apart : (m n : ℕ) → m < length index → n < length index → slice_index_or index m 0 ≡ slice_index_or index n 0 → slice_index_or index n 0 ≢ 0 → m ≡ n
  pub few : count_by (λ i. i == 0) index + length lists ≤ length index + 1
  pub room : 0 < length index → length index < capacity
