-- What an index over a model is: the holders of values at attributes, and the objects with their classes.
use Rattle.std.specs.Prelude.{ℕ, ◌≡◌, ◌↔◌, true, List, Contains}
use Rattle.object_tables.specs.declared.value.ObjId.{ObjId}
use Rattle.object_tables.specs.Models.{ModelData}
use Rattle.qvtr_semantics.specs.Objects.{conforms_at}
use Rattle.key_index.specs.declared.holder.Holder.{Holder}
use Rattle.key_index.specs.declared.instance.Instance.{Instance}
use Rattle.key_index.specs.Holders.{AreAllHolders}
use Rattle.key_index.specs.Instances.{AreInstances}

pub record IndexData : Type 0 where
  pub holders : List Holder
  pub instances : List Instance

pub record IsIndexOf (m : ModelData) (index : IndexData) : Type 0 where
  pub holders : AreAllHolders m index.holders
  pub instances : AreInstances m index.instances

-- the live objects whose class is the class or inherits from it, in whichever order (OCL 2.4, section 7.5.10)
abbrev pub IsExtentOf : ModelData → ℕ → List ObjId → Type 0
IsExtentOf m class objects = (o : ObjId) → Contains objects o ↔ (conforms_at m class o.0 ≡ true)
