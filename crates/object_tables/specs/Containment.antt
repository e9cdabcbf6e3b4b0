-- Containment between the objects of a model (MOF 2.5.1, 12.4 and UML 2.5.1, 9.5.3: composite properties).
use Rattle.std.specs.Prelude.{◌≡◌, ◌⊎◌, ◌≤◌, ℕ, suc, List, [], ◌∷◌, length}
use Rattle.object_tables.specs.Models.{ModelData, IsLive, IsContainedIn, IsTop}

-- a contains o, by some property
abbrev pub IsContainer : ModelData → ℕ → ℕ → Type 0
IsContainer m o a = (p : ℕ) × IsContainedIn m o a p

-- the objects of the path each contain the one before, from o up to a
abbrev pub IsContainerPath : ModelData → ℕ → List ℕ → ℕ → Type 0
IsContainerPath m o [] a = o ≡ a
IsContainerPath m o (b ∷ path) a = IsContainer m o b × IsContainerPath m b path a

-- a path of one container or more leads from the object back to it
abbrev pub IsOnCycle : ModelData → ℕ → Type 0
IsOnCycle m o = (a : ℕ) × (path : List ℕ) × IsContainer m o a × IsContainerPath m a path o

-- containment has no cycle
abbrev pub IsAcyclic : ModelData → Type 0
IsAcyclic m = (o : ℕ) → ¬ IsOnCycle m o

-- the object has this depth: 1 for a top object, and one more for each container on the path up to one
abbrev pub IsDepth : ModelData → ℕ → ℕ → Type 0
IsDepth m o n = (path : List ℕ) × (top : ℕ) × IsContainerPath m o path top × IsTop m top × (n ≡ suc (length path))

-- no object is deeper, and one has this depth, or the model has no object and this is 0
pub record IsGreatestDepth (m : ModelData) (n : ℕ) : Type 0 where
  pub most : (o d : ℕ) → IsLive m o → IsDepth m o d → d ≤ n
  pub reached : (n ≡ 0) ⊎ ((o : ℕ) × IsLive m o × IsDepth m o n)
