-- Links between numbered ends, as an arena's contracts see them: at each end, the ends that it is joined to, in its order.
use Rattle.std.specs.Prelude.{◌≡◌, ◌≢◌, ℕ, ◌<◌, length, not, ◌==◌, List, [], ◌∷◌, ◌++◌, map, filter, replicate, ◌-◌, max, slice_index_or, slice_set, Contains, AllPairs}

-- an arena as its contracts see it: at each end the ends that it is joined to, and for how many ends and joins more there is room
pub record Linkage : Type 0 where
  pub links : List (List ℕ)
  pub spare_ends : ℕ
  pub spare_joins : ℕ

-- the ends that an end is joined to, in its order
abbrev pub others_of : List (List ℕ) → ℕ → List ℕ
others_of links end = slice_index_or links end []

-- where b is an other of a, a is one of b
abbrev pub IsSymmetric : List (List ℕ) → Type 0
IsSymmetric links = (a b : ℕ) → Contains (others_of links a) b → Contains (others_of links b) a

-- no end is joined to itself
abbrev pub IsLoopless : List (List ℕ) → Type 0
IsLoopless links = (a : ℕ) → ¬ Contains (others_of links a) a

-- no two ends are joined twice
abbrev pub IsSingle : List (List ℕ) → Type 0
IsSingle links = (a : ℕ) → AllPairs (λ x y. x ≢ y) (others_of links a)

-- an end is joined to ends of the arena
abbrev pub IsWithin : List (List ℕ) → Type 0
IsWithin links = (a b : ℕ) → Contains (others_of links a) b → b < length links

-- what every arena keeps
pub record IsSimple (links : List (List ℕ)) : Type 0 where
  pub within : IsWithin links
  pub symmetric : IsSymmetric links
  pub loopless : IsLoopless links
  pub single : IsSingle links

-- a list without a number
abbrev pub without : ℕ → List ℕ → List ℕ
without x xs = filter (λ y. not (y == x)) xs

-- b stands last at a
abbrev pub with_last : List (List ℕ) → ℕ → ℕ → List (List ℕ)
with_last links a b = slice_set links a (others_of links a ++ b ∷ [])

-- a and b are joined, each last at the other
abbrev pub joined_ends : List (List ℕ) → ℕ → ℕ → List (List ℕ)
joined_ends links a b = with_last (with_last links a b) b a

-- b is no other of a any more
abbrev pub without_other : List (List ℕ) → ℕ → ℕ → List (List ℕ)
without_other links a b = slice_set links a (without b (others_of links a))

-- a and b are not joined any more
abbrev pub parted : List (List ℕ) → ℕ → ℕ → List (List ℕ)
parted links a b = without_other (without_other links a b) b a

-- no end is joined to this one any more
abbrev pub all_parted : List (List ℕ) → ℕ → List (List ℕ)
all_parted links end = slice_set (map (without end) links) end []

-- other links, with the room that there was
abbrev pub with_links : Linkage → List (List ℕ) → Linkage
with_links arena links = record arena { links = links }

-- more ends, that are joined to nothing
abbrev pub with_ends : Linkage → ℕ → Linkage
with_ends arena count = record arena { links = arena.links ++ replicate count []; spare_ends = arena.spare_ends - count }

-- one join more
abbrev pub with_join : Linkage → ℕ → ℕ → Linkage
with_join arena a b = record arena { links = joined_ends arena.links a b; spare_joins = arena.spare_joins - 1 }

-- room for so many ends and joins at least
abbrev pub with_room : Linkage → ℕ → ℕ → Linkage
with_room arena ends joins = record arena { spare_ends = max arena.spare_ends ends; spare_joins = max arena.spare_joins joins }

-- the end is parted from one that it was joined to
pub record IsPartedSomewhere (old : List (List ℕ)) (end : ℕ) (new : List (List ℕ)) : Type 0 where
  pub other : ℕ
  pub was : Contains (others_of old end) other
  pub is : new ≡ parted old end other
