-- The place of a property of a model's object.
use Rattle.std.specs.Prelude.{◌≡◌, ℕ, true, Some, Contains}
use Rattle.mof_metamodel.specs.declared.desc.MetaDesc.{MetaDesc}
use Rattle.mof_metamodel.specs.Metamodels.{props_of, prop_at, opposite_of, Conforms}
use Rattle.object_tables.specs.Models.{ModelData, class_at}
use Rattle.object_tables.specs.Tied.{near}

-- the property is one of the object's class, and this is its place
pub record IsPlaceOf (m : ModelData) (o p place : ℕ) : Type 0 where
  pub class : ℕ
  pub class_is : class_at m o ≡ Some class
  pub has : Contains (props_of m.meta class) p
  pub place_is : place ≡ near m.meta class p

-- the property has an opposite, which is composite
pub record IsOpposedByWhole (meta : MetaDesc) (p : ℕ) : Type 0 where
  pub opposite : ℕ
  pub opposite_is : opposite_of meta p ≡ Some opposite
  pub composite : (prop_at meta opposite).composite ≡ true

-- the number has an object, of a class that conforms to this one
pub record IsOfClass (m : ModelData) (o conformed : ℕ) : Type 0 where
  pub class : ℕ
  pub class_is : class_at m o ≡ Some class
  pub conforms : Conforms m.meta class conformed
