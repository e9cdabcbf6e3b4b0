-- The model that a tree of elements is (XMI 2.5.1, clauses 7 and 9; MOF 2.5.1, Reflection): an object for each object's element, its
-- values, and its links as sets of pairs.
use Rattle.std.specs.Prelude.{◌≡◌, ℕ, ◌<◌, ◌&&◌, Bool, true, false, List, [], ◌∷◌, length, filter_map, slice_get, codes, Option, None, Some, if◌then◌else◌}
use Rattle.mof_metamodel.specs.declared.desc.PropType.{PropType}
use Rattle.mof_metamodel.specs.declared.desc.PropType.TheVariants as types
use Rattle.mof_metamodel.specs.Characters.{same_name}
use Rattle.mof_metamodel.specs.Metamodels.{type_of}
use Rattle.object_tables.specs.declared.value.Value.{Value}
use Rattle.object_tables.specs.declared.value.Value.TheVariants as values
use Rattle.object_tables.specs.Models.{ModelData, class_at, id_at, values_at, IsAttributeOf, IsReferenceOf}
use Rattle.model_assembly.specs.declared.fault.ModelFault.{ModelFault}
use Rattle.model_assembly.specs.Faults.{Spot, StandsAt, StandsBy}
use Rattle.model_assembly.specs.Links.{HasLinks}
use Rattle.model_assembly.specs.Profile.{prop_name}
use Rattle.model_assembly.specs.Source.{Source, file_ids, object_count, class_of, id_of, texts_at}
use Rattle.model_assembly.specs.Values.{value_of, without_repeats}

-- the values that the elements of an object of the file write, each once
abbrev pub file_values : Source → ℕ → ℕ → List Value
file_values s o p = without_repeats (filter_map (value_of s.meta (type_of s.meta p)) (texts_at s o p))

-- an added primitive type has its name
abbrev pub is_string : Option PropType → Bool
is_string (Some types.Str) = true
is_string type = false

abbrev pub added_values : Source → ℕ → ℕ → List Value
added_values s o p = if same_name (prop_name s.meta p) (codes "name") && is_string (type_of s.meta p) then values.Str (id_of s o) ∷ [] else []

abbrev pub values_of : Source → ℕ → ℕ → Option (List ℕ) → List Value
values_of s o p (Some id) = file_values s o p
values_of s o p None = added_values s o p

abbrev pub written_values : Source → ℕ → ℕ → List Value
written_values s o p = values_of s o p (slice_get (file_ids s) o)

-- no fault stands in the tree
pub record IsFaultless (s : Source) : Type 0 where
  pub at : (fault : ModelFault) (place : ℕ) → ¬ StandsAt s fault place
  pub by : (fault : ModelFault) (spot : Spot) → ¬ StandsBy s fault spot

-- the tree is faultless, and is this model
pub record Content (s : Source) (m : ModelData) : Type 0 where
  pub faultless : IsFaultless s
  pub meta : m.meta ≡ s.meta
  pub count : length m.objects ≡ object_count s
  pub classes : (o : ℕ) → o < object_count s → class_at m o ≡ class_of s o
  pub ids : (o : ℕ) → o < object_count s → id_at m o ≡ Some (id_of s o)
  pub attributes : (o p : ℕ) → IsAttributeOf m o p → values_at m o p ≡ written_values s o p
  pub references : (o p : ℕ) → IsReferenceOf m o p → HasLinks s m o p
