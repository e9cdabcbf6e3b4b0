-- Walks up the containers of objects, which leave a mark at each object that they pass, so that none is passed twice.
use Rattle.std.specs.Prelude.{◌≡◌, ◌⊎◌, ℕ, ◌<◌, ◌≤◌, List, length, slice_index, Option, Some, None, IfSome}
use Rattle.object_tables.specs.declared.value.ObjId.{ObjId}
use Rattle.object_tables.specs.Models.{ModelData, IsLive}
use Rattle.object_tables.specs.Containment.{IsContainer, IsContainerPath, IsOnCycle, IsDepth}

-- a path of containers, or none, leads from the object up to the other
abbrev pub LeadsTo : ModelData → ℕ → ℕ → Type 0
LeadsTo m o a = (path : List ℕ) × IsContainerPath m o path a

-- for each number of an object a mark, 0 where no walk has passed; a container of what was passed was passed
pub record IsMarked (m : ModelData) (marks : List ℕ) (highest : ℕ) : Type 0 where
  pub count : length marks ≡ length m.objects
  pub most : (o : ℕ) → slice_index marks o ≤ highest
  pub closed : (o a : ℕ) → 0 < slice_index marks o → IsContainer m o a → 0 < slice_index marks a

-- the last walk passed the object as the first one
pub record IsPassedNow (old new : List ℕ) (o : ℕ) : Type 0 where
  pub before : slice_index old o ≡ 0
  pub now : 0 < slice_index new o

-- there is a least object so far, and it is at most this one
abbrev pub IsAtMost : Option ObjId → ℕ → Type 0
IsAtMost None o = ⊥
IsAtMost (Some least) o = least.0 ≤ o

-- walks have passed all objects before this one, and found the least object on a cycle among those that they passed
pub record IsSearched (m : ModelData) (marks : List ℕ) (found : Option ObjId) (o : ℕ) : Type 0 where
  pub marked : IsMarked m marks o
  pub passed : (a : ℕ) → a < o → IsLive m a → 0 < slice_index marks a
  pub cycle : IfSome found (λ a. IsOnCycle m a.0)
  pub least : (a : ℕ) → 0 < slice_index marks a → IsOnCycle m a → IsAtMost found a

-- for each number of an object its depth, or 0 where it isn't found yet
pub record AreDepths (m : ModelData) (depths : List ℕ) : Type 0 where
  pub count : length depths ≡ length m.objects
  pub each : (o : ℕ) → 0 < slice_index depths o → IsDepth m o (slice_index depths o)

-- no object before this one is deeper, and one of them has this depth, or this is 0; depths are found so far
pub record IsGreatestBefore (m : ModelData) (depths : List ℕ) (n o : ℕ) : Type 0 where
  pub depths_are : AreDepths m depths
  pub most : (a d : ℕ) → a < o → IsLive m a → IsDepth m a d → d ≤ n
  pub reached : (n ≡ 0) ⊎ ((a : ℕ) × IsLive m a × IsDepth m a n)
