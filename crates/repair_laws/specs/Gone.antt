-- Which objects of the target are deleted, as the least set that two rules give (this engine's own).
use Rattle.std.specs.Prelude.{◌≡◌, ℕ, true, false, List, Some}
use Rattle.object_tables.specs.Models.{ModelData}
use Rattle.qvtr_semantics.specs.Objects.{is_number_among}
use Rattle.repair_semantics.specs.Deletions.{is_unneeded, container_of}

-- an object that is unneeded, and one that is no image with a container that is deleted
pub data IsGone (m : ModelData) (classes images : List ℕ) : ℕ → Type 0 where
  unneeded : (o : ℕ) → is_unneeded m classes images o ≡ true → IsGone m classes images o
  with_container : (o a : ℕ) → is_number_among o images ≡ false → container_of m o ≡ Some a → IsGone m classes images a → IsGone m classes images o
