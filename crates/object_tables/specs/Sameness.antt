-- When two models are the same: they differ at most in the numbers of their objects. And when they have the same parts.
use Rattle.std.specs.Prelude.{◌≡◌, ℕ, ◌<◌, length, map}
use Rattle.object_tables.specs.Models.{ModelData, IsLive, class_at, id_at, values_at, partners_at, IsAttributeOf, IsReferenceOf, IsTop}

-- each live number of one model has one of the other as its image, and each of the other is the image of its origin
pub record IsBijection (m n : ModelData) (image origin : ℕ → ℕ) : Type 0 where
  pub live : (o : ℕ) → IsLive m o → IsLive n (image o)
  pub covered : (o : ℕ) → IsLive n o → IsLive m (origin o)
  pub back : (o : ℕ) → IsLive m o → origin (image o) ≡ o
  pub there : (o : ℕ) → IsLive n o → image (origin o) ≡ o

-- the images have the classes, identifiers, values and partners of the objects, the partners in the same order and so the same pairs;
-- and the objects that nothing contains come in the same order by number
pub record IsSame (m n : ModelData) : Type 0 where
  pub meta : n.meta ≡ m.meta
  pub image : ℕ → ℕ
  pub origin : ℕ → ℕ
  pub bijection : IsBijection m n image origin
  pub classes : (o : ℕ) → IsLive m o → class_at n (image o) ≡ class_at m o
  pub identifiers : (o : ℕ) → IsLive m o → id_at n (image o) ≡ id_at m o
  pub values : (o p : ℕ) → IsAttributeOf m o p → values_at n (image o) p ≡ values_at m o p
  pub partners : (o p : ℕ) → IsReferenceOf m o p → partners_at n (image o) p ≡ map image (partners_at m o p)
  pub tops : (a b : ℕ) → IsLive m a → IsTop m a → IsLive m b → IsTop m b → a < b → image a < image b

-- the models have one metamodel and numbers up to one end, and each number has the same class and identifier in both, the same values at each
-- attribute, and the same partners in the same order at each reference
pub record HasSameParts (m n : ModelData) : Type 0 where
  pub meta : n.meta ≡ m.meta
  pub count : length n.objects ≡ length m.objects
  pub classes : (o : ℕ) → class_at n o ≡ class_at m o
  pub identifiers : (o : ℕ) → id_at n o ≡ id_at m o
  pub values : (o p : ℕ) → IsAttributeOf m o p → values_at n o p ≡ values_at m o p
  pub partners : (o p : ℕ) → IsReferenceOf m o p → partners_at n o p ≡ partners_at m o p
