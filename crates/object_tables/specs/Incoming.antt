-- The links to an object by references without an opposite (MOF 2.5.1, Reflection: a link that its far end doesn't name). Inside they
-- are what the object's nameless places are joined to.
use Rattle.std.specs.Prelude.{◌≡◌, ℕ, ◌-◌, ◌<◌, ◌≤◌, List, length, slice_index, Option, None, Some}
use Rattle.mof_metamodel.specs.declared.desc.MetaDesc.{MetaDesc}
use Rattle.mof_metamodel.specs.declared.desc.PropId.{PropId}
use Rattle.mof_metamodel.specs.Metamodels.{class_count, props_of, opposite_of}
use Rattle.object_tables.specs.declared.value.ObjId.{ObjId}
use Rattle.object_tables.specs.Models.{ModelData, IsLinked, IsReferenceOf}
use Rattle.object_tables.specs.Rows.{Row}
use Rattle.object_tables.specs.Tied.{class_in}

-- o is a partner of a at p, a reference without an opposite
pub record IsIncoming (m : ModelData) (o a p : ℕ) : Type 0 where
  pub alone : opposite_of m.meta p ≡ None
  pub reference : IsReferenceOf m a p
  pub linked : IsLinked m p a o

-- the property whose place it is, at an object of the class
abbrev pub prop_in : MetaDesc → Option ℕ → ℕ → ℕ
prop_in meta None place = 0
prop_in meta (Some class) place = slice_index (props_of meta class) (place - 2)

-- the object of a place, and the property whose place it is
abbrev pub link_of : MetaDesc → List Row → ℕ × ℕ → ObjId × PropId
link_of meta rows e = (record { 0 = e.0 }, record { 0 = prop_in meta (class_in rows e.0) e.1 })

-- the place is that of a property of an object
pub record IsOfProperty (meta : MetaDesc) (rows : List Row) (e : ℕ × ℕ) : Type 0 where
  pub class : ℕ
  pub class_is : class_in rows e.0 ≡ Some class
  pub known : class < class_count meta
  pub behind : 2 ≤ e.1
  pub property : e.1 - 2 < length (props_of meta class)
