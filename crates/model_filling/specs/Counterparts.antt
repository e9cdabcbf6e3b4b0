-- Models that have the same objects (this engine's own): they differ at most in values and links.
use Rattle.std.specs.Prelude.{◌≡◌, ℕ, length}
use Rattle.object_tables.specs.Models.{ModelData, class_at, id_at}

-- the models have one metamodel and numbers up to one end, and each number has the same class and identifier in both, or no object in
-- both
pub record HasObjectsOf (m n : ModelData) : Type 0 where
  pub meta : m.meta ≡ n.meta
  pub count : length m.objects ≡ length n.objects
  pub classes : (o : ℕ) → class_at m o ≡ class_at n o
  pub identifiers : (o : ℕ) → id_at m o ≡ id_at n o
