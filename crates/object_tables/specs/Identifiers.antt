-- How objects are found by their identifiers, which stand with the objects alone: by the hash of each.
use Rattle.std.specs.Prelude.{◌≡◌, ◌⊎◌, ℕ, List, Some, IsSome, Contains, option_map, nat_eq}
use Rattle.std.specs.HashMap.{get}
use Rattle.object_tables.specs.declared.identifiers.Identifiers.{Identifiers}
use Rattle.object_tables.specs.Keys.{hash_after}
use Rattle.object_tables.specs.Rows.{Row}
use Rattle.object_tables.specs.Tied.{named_in}

-- the number has an object of this identifier
abbrev pub HasIdentifier : List Row → ℕ → List ℕ → Type 0
HasIdentifier rows o id = option_map (λ n. n.id) (named_in rows o) ≡ Some id

-- the object is looked at for these bytes: it is the first of their hash, or one of those whose hash another had
abbrev pub Finds : Identifiers → List ℕ → ℕ → Type 0
Finds ids bytes o = (get nat_eq ids.first (hash_after ids.key bytes) ≡ Some o) ⊎ Contains ids.others.items o

-- a live object is the first of the hash
abbrev pub IsTaken : Identifiers → List Row → ℕ → Type 0
IsTaken ids rows hash = (o : ℕ) × (get nat_eq ids.first hash ≡ Some o) × IsSome (named_in rows o)

-- each live object is looked at for what it was looked at before
abbrev pub KeepsFinding : List Row → Identifiers → Identifiers → Type 0
KeepsFinding rows old new = (bytes : List ℕ) (o : ℕ) → IsSome (named_in rows o) → Finds old bytes o → Finds new bytes o
