-- A model on its way to hold what another one holds, the wanted one (this engine's own).
use Rattle.std.specs.Prelude.{◌≡◌, ◌⊎◌, ℕ}
use Rattle.object_tables.specs.Kept.{Kept}
use Rattle.object_tables.specs.Models.{ModelData, values_at, partners_at, IsLinked, linked}
use Rattle.object_tables.specs.Validity.{IsPropertyOf}
use Rattle.model_filling.specs.Counterparts.{HasObjectsOf}

-- the model has the objects of the wanted one, and no link that isn't one there
pub record IsPartOf (wanted m : ModelData) : Type 0 where
  pub whole : Kept wanted
  pub kept : Kept m
  pub objects : HasObjectsOf m wanted
  pub links : (p a b : ℕ) → IsLinked m p a b → IsLinked wanted p a b

-- two objects were a pair, or have become one
abbrev pub IsLinkedOnce : ModelData → ℕ → ℕ → ℕ → ModelData → Type 0
IsLinkedOnce old p a b new = (IsLinked old p a b × (new ≡ old)) ⊎ ((¬ IsLinked old p a b) × (new ≡ linked old p a b))

-- an object has its wanted values at a property, and its wanted partners among others
pub record IsFilledAt (wanted m : ModelData) (o p : ℕ) : Type 0 where
  pub values : values_at m o p ≡ values_at wanted o p
  pub links : (b : ℕ) → IsLinked wanted p o b → IsLinked m p o b

-- what was filled stays so
pub record Fills (wanted old new : ModelData) : Type 0 where
  pub part : IsPartOf wanted new
  pub still : (o p : ℕ) → IsFilledAt wanted old o p → IsFilledAt wanted new o p

-- each object has its wanted values and partners, these in any order
pub record IsFilled (wanted m : ModelData) : Type 0 where
  pub part : IsPartOf wanted m
  pub filled : (o p : ℕ) → IsPropertyOf wanted o p → IsFilledAt wanted m o p

-- an object has its wanted partners at a property, in their order
abbrev pub IsOrderedAt : ModelData → ModelData → ℕ → ℕ → Type 0
IsOrderedAt wanted m o p = partners_at m o p ≡ partners_at wanted o p

-- what was in order stays so
pub record Orders (wanted old new : ModelData) : Type 0 where
  pub filled : IsFilled wanted new
  pub still : (o p : ℕ) → IsOrderedAt wanted old o p → IsOrderedAt wanted new o p
