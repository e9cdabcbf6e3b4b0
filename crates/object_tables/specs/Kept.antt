-- What every model keeps (MOF 2.5.1, Reflection: typed values, links with two ends, and at most one container). The bounds of properties
-- and circles of containers are not among it.
use Rattle.std.specs.Prelude.{◌≡◌, ◌≢◌, ◌↔◌, ℕ, ◌<◌, false, List, [], length, Some, IsTrue, AllPairs}
use Rattle.mof_metamodel.specs.declared.desc.MetaDesc.{MetaDesc}
use Rattle.mof_metamodel.specs.Characters.{is_identifier_text}
use Rattle.mof_metamodel.specs.Metamodels.{class_count, class_at as meta_class, props_of, opposite_of}
use Rattle.mof_metamodel.specs.WellMeta.{WellMeta}
use Rattle.object_tables.specs.Objects.{Object}
use Rattle.object_tables.specs.Models.{ModelData, object_at, id_at, values_at, partners_at, IsLinked, IsAttributeOf, IsReferenceOf, IsSlotOf, IsPartnerFor, IsContainedIn}

-- the object is of a concrete class of the metamodel, has an identifier, and a slot for each property of its class
pub record IsWellObject (meta : MetaDesc) (object : Object) : Type 0 where
  pub class : object.class < class_count meta
  pub concrete : (meta_class meta object.class).is_abstract ≡ false
  pub identifier : IsTrue (is_identifier_text object.id)
  pub slots : length object.slots ≡ length (props_of meta object.class)

-- at an attribute stand values that may stand there, and no partners
pub record IsWellAttribute (m : ModelData) (o p : ℕ) : Type 0 where
  pub values : IsSlotOf m.meta p (values_at m o p)
  pub partners : partners_at m o p ≡ []

-- at a reference stand no values, and partners of its type, each once
pub record IsWellReference (m : ModelData) (o p : ℕ) : Type 0 where
  pub values : values_at m o p ≡ []
  pub partners : (b : ℕ) → IsLinked m p o b → IsPartnerFor m p b
  pub distinct : AllPairs (λ x y. x ≢ y) (partners_at m o p)

pub record Kept (m : ModelData) : Type 0 where
  pub well : WellMeta m.meta
  pub objects : (o : ℕ) (object : Object) → object_at m o ≡ Some object → IsWellObject m.meta object
  -- no two objects have one identifier
  pub identifiers : (a b : ℕ) (id : List ℕ) → id_at m a ≡ Some id → id_at m b ≡ Some id → a ≡ b
  pub attributes : (o p : ℕ) → IsAttributeOf m o p → IsWellAttribute m o p
  pub references : (o p : ℕ) → IsReferenceOf m o p → IsWellReference m o p
  -- a reference and its opposite are two names of one set of pairs
  pub opposites : (p q a b : ℕ) → opposite_of m.meta p ≡ Some q → IsLinked m p a b ↔ IsLinked m q b a
  -- an object has at most one container, by at most one property
  pub containers : (o a b p q : ℕ) → IsContainedIn m o a p → IsContainedIn m o b q → (a ≡ b) × (p ≡ q)
