-- Names with what they stand for, in the order in which they came.
use Rattle.std.specs.Prelude.{◌≡◌, ℕ, ◌<◌, List, [], ◌∷◌, ◌++◌, Option, map, length, position, nat_eq, All, String, string_bytes, chars, if◌then◌else◌}
use Rattle.std.specs.List.{range_with_len}
use Rattle.std.specs.Map.{lookup, values_of}
use Rattle.mof_metamodel.specs.Characters.{same_name}

abbrev pub NamesWith : Type 0 → Type 0
NamesWith X = List (List ℕ × X)

-- where the first of this name stands in the list, from 0
abbrev pub number_of : {X : Type 0} → NamesWith X → List ℕ → Option ℕ
number_of entries name = position (same_name name) (map (λ e. e.0) entries)

-- what the first of this name stands for
abbrev pub value_of : {X : Type 0} → NamesWith X → List ℕ → Option X
value_of entries name = lookup (same_name name) entries

-- the list with one more name
abbrev pub with_value : {X : Type 0} → NamesWith X → List ℕ → X → NamesWith X
with_value entries name x = entries ++ (name, x) ∷ []

-- An index of names: each name with its place among them.

-- the name at a place
abbrev pub name_at : {Y : Type 0} → List (String Y × ℕ) → ℕ → List ℕ
name_at [] place = []
name_at (e ∷ es) place = if nat_eq e.1 place then chars (string_bytes e.0) else name_at es place

-- the names by their places
abbrev pub names_in : {Y : Type 0} → List (String Y × ℕ) → List (List ℕ)
names_in es = map (name_at es) (range_with_len 0 (length es))

-- the place of a name
abbrev pub place_in : {Y : Type 0} → List (String Y × ℕ) → List ℕ → Option ℕ
place_in es name = lookup (λ k. same_name name (chars (string_bytes k))) es

-- the places are those below the number of names, and a name is found at its place
pub record IsIndex {Y : Type 0} (es : List (String Y × ℕ)) : Type 0 where
  pub within : All (λ place. place < length es) (values_of es)
  pub found : (name : List ℕ) → place_in es name ≡ position (same_name name) (names_in es)
