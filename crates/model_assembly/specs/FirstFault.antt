-- Which fault of a tree of elements is told: too many objects; else the first by its place, and of those at one place the first by its
-- kind; else the first dangling reference, the first object that is contained twice, the first mismatch of ends; else the model isn't
-- valid; else it nests too deeply.
use Rattle.std.specs.Prelude.{◌≡◌, ◌⊎◌, ℕ, ◌<◌, ◌≤◌, List, Some}
use Rattle.object_tables.specs.declared.limit.TheConstants.{MAX_OBJECTS, MAX_DEPTH}
use Rattle.object_tables.specs.declared.breach.Breach.{Breach}
use Rattle.object_tables.specs.declared.limit.LimitKind.{LimitKind}
use Rattle.object_tables.specs.declared.limit.LimitKind.TheVariants as limits
use Rattle.object_tables.specs.Containment.{IsDepth}
use Rattle.object_tables.specs.Kept.{Kept}
use Rattle.object_tables.specs.Models.{ModelData, IsLive, id_at}
use Rattle.object_tables.specs.Validity.{Valid, IsFirstBreach}
use Rattle.model_assembly.specs.declared.fault.ModelFault.{ModelFault}
use Rattle.model_assembly.specs.declared.fault.ModelFault.TheVariants as faults
use Rattle.model_assembly.specs.Content.{Content}
use Rattle.model_assembly.specs.Faults.{Spot, IsBefore, StandsAt, StandsBy}
use Rattle.model_assembly.specs.Source.{Source, object_count}

-- the place of a kind among the kinds
abbrev pub rank : ModelFault → ℕ
rank (faults.UnknownClass name) = 2
rank (faults.UnknownProperty id prop) = 3
rank (faults.WrongValue id prop) = 4
rank (faults.DuplicateId id) = 5
rank (faults.Dangling id prop reference) = 6
rank (faults.TwoContainers id) = 7
rank (faults.Mismatch id prop other other_prop) = 8
rank (faults.Invalid breach id) = 9
rank (faults.Limit kind) = 10

-- there are more objects than a model may have
abbrev pub HasTooManyObjects : Source → Type 0
HasTooManyObjects s = MAX_OBJECTS < object_count s

-- the fault stands at a place, before all others
pub record IsFirstAt (s : Source) (fault : ModelFault) : Type 0 where
  pub fewer : object_count s ≤ MAX_OBJECTS
  pub place : ℕ
  pub stands : StandsAt s fault place
  pub first : (other : ModelFault) (earlier : ℕ) → StandsAt s other earlier → (place < earlier) ⊎ ((place ≡ earlier) × (rank fault ≤ rank other))

-- the fault stands at a spot, no other kind comes first, and none of its kind stands before
pub record IsFirstBy (s : Source) (fault : ModelFault) : Type 0 where
  pub fewer : object_count s ≤ MAX_OBJECTS
  pub none_at : (other : ModelFault) (place : ℕ) → ¬ StandsAt s other place
  pub spot : Spot
  pub stands : StandsBy s fault spot
  pub least : (other : ModelFault) (elsewhere : Spot) → StandsBy s other elsewhere → rank fault ≤ rank other
  pub first : (other : ModelFault) (earlier : Spot) → StandsBy s other earlier → rank other ≡ rank fault → ¬ IsBefore earlier spot

-- the tree is a model, which breaks a rule
pub record IsInvalid (s : Source) (breach : Breach) (id : List ℕ) : Type 0 where
  pub fewer : object_count s ≤ MAX_OBJECTS
  pub model : ModelData
  pub content : Content s model
  pub kept : Kept model
  pub broken : IsFirstBreach model breach
  pub id_is : id_at model breach.object.0 ≡ Some id

-- the tree is a valid model, in which an object is too deep
pub record IsTooDeep (s : Source) : Type 0 where
  pub fewer : object_count s ≤ MAX_OBJECTS
  pub model : ModelData
  pub content : Content s model
  pub valid : Valid model
  pub object : ℕ
  pub live : IsLive model object
  pub depth : ℕ
  pub depth_is : IsDepth model object depth
  pub deep : MAX_DEPTH < depth

-- the fault is the one that is told
abbrev pub IsLimit : Source → LimitKind → Type 0
IsLimit s limits.Objects = HasTooManyObjects s
IsLimit s limits.Depth = IsTooDeep s

abbrev pub IsFirstFault : Source → ModelFault → Type 0
IsFirstFault s (faults.Limit kind) = IsLimit s kind
IsFirstFault s (faults.Invalid breach id) = IsInvalid s breach id
IsFirstFault s (faults.UnknownClass name) = IsFirstAt s (faults.UnknownClass name)
IsFirstFault s (faults.UnknownProperty id prop) = IsFirstAt s (faults.UnknownProperty id prop)
IsFirstFault s (faults.WrongValue id prop) = IsFirstAt s (faults.WrongValue id prop)
IsFirstFault s (faults.DuplicateId id) = IsFirstAt s (faults.DuplicateId id)
IsFirstFault s (faults.Dangling id prop reference) = IsFirstBy s (faults.Dangling id prop reference)
IsFirstFault s (faults.TwoContainers id) = IsFirstBy s (faults.TwoContainers id)
IsFirstFault s (faults.Mismatch id prop other other_prop) = IsFirstBy s (faults.Mismatch id prop other other_prop)

-- the tree is a valid model within the limits
pub record IsModel (s : Source) (m : ModelData) : Type 0 where
  pub content : Content s m
  pub valid : Valid m
  pub objects : object_count s ≤ MAX_OBJECTS
  pub depth : (o d : ℕ) → IsLive m o → IsDepth m o d → d ≤ MAX_DEPTH
