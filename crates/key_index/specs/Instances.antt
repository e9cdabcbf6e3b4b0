-- The objects of a model with their classes, as an index keeps them: in the order of the classes' numbers (the order is this engine's own).
use Rattle.std.specs.Prelude.{ℕ, ◌≡◌, ◌<◌, Bool, not, nat_le, List, [], ◌∷◌, map, filter, length, Option, None, Some, All, Contains}
use Rattle.std.specs.List.{flat_map, range_with_len}
use Rattle.std.specs.List.Sorted.{IsNonDecreasingBy}
use Rattle.mof_metamodel.specs.declared.desc.MetaDesc.{MetaDesc}
use Rattle.mof_metamodel.specs.Metamodels.{class_count}
use Rattle.object_tables.specs.declared.value.ObjId.{ObjId}
use Rattle.object_tables.specs.Models.{ModelData, class_at}
use Rattle.qvtr_semantics.specs.Objects.{is_kind_of}
use Rattle.key_index.specs.declared.instance.Instance.{Instance}

abbrev pub instance : ℕ → ℕ → Instance
instance o c = record { class = record { 0 = c }; object = record { 0 = o } }

-- ---- the instances as they are gathered: of each object by number

abbrev pub instance_if : ℕ → Option ℕ → List Instance
instance_if o None = []
instance_if o (Some c) = instance o c ∷ []

abbrev pub instances_of : ModelData → ℕ → List Instance
instances_of m o = instance_if o (class_at m o)

abbrev pub instances : ModelData → List Instance
instances m = flat_map (instances_of m) (range_with_len 0 (length m.objects))

-- the instances are those of the model, in whichever order
pub record AreInstances (m : ModelData) (is : List Instance) : Type 0 where
  pub only : (i : Instance) → Contains is i → class_at m i.object.0 ≡ Some i.class.0
  pub all : (o c : ℕ) → class_at m o ≡ Some c → Contains is (instance o c)

-- ---- instances in the order of their classes

abbrev pub class_number : Instance → ℕ
class_number i = i.class.0

pub record AreOrdered (meta : MetaDesc) (is : List Instance) : Type 0 where
  pub ascending : IsNonDecreasingBy class_number is
  pub known : All (λ i. i.class.0 < class_count meta) is

-- its class comes behind this one
abbrev pub is_later : ℕ → Instance → Bool
is_later c i = not (nat_le i.class.0 c)

-- ---- those of a class

abbrev pub is_instance : MetaDesc → ℕ → Instance → Bool
is_instance meta class i = is_kind_of meta i.class.0 class

abbrev pub objects_of : MetaDesc → ℕ → List Instance → List ObjId
objects_of meta class is = map (λ i. i.object) (filter (is_instance meta class) is)
