-- The faults of a tree of elements, by a metamodel: those that are told by a place in the tree, and those of references, which are told
-- by the object, the property and the number of what is written there (MOF 2.5.1, 12.4; UML 2.5.1, 7.5, 9.5.3 and 11.5).
use Rattle.std.specs.Prelude.{◌≡◌, ◌≢◌, ◌⊎◌, ℕ, ◌<◌, true, List, slice_get, Contains, Some}
use Rattle.mof_metamodel.specs.Metamodels.{prop_at, type_of, opposite_of}
use Rattle.object_tables.specs.Models.{ConformsTo, is_class_type}
use Rattle.model_assembly.specs.declared.fault.ModelFault.{ModelFault}
use Rattle.model_assembly.specs.declared.fault.ModelFault.TheVariants as faults
use Rattle.model_assembly.specs.Elements.{Item, object_items}
use Rattle.model_assembly.specs.Judged.{id_place, IsUnknownClass, IsUnknownProperty, IsWrongValue}
use Rattle.model_assembly.specs.Links.{IsDisputed}
use Rattle.model_assembly.specs.Profile.{prop_name, props_or_none}
use Rattle.model_assembly.specs.References.{Target, target_text}
use Rattle.model_assembly.specs.Source.{Source, all_items, class_of, file_ids, id_of, target_number, targets_at}

-- By places

-- an element of the tree
abbrev pub IsItem : Source → Item → Type 0
IsItem s item = Contains (all_items s) item

-- an object has the identifier of an earlier one
pub record IsDuplicate (s : Source) (place : ℕ) (id : List ℕ) : Type 0 where
  pub object : ℕ
  pub item : Item
  pub item_is : slice_get (object_items (all_items s)) object ≡ Some item
  pub id_is : slice_get (file_ids s) object ≡ Some id
  pub earlier : ℕ
  pub before : earlier < object
  pub same : slice_get (file_ids s) earlier ≡ Some id
  pub place_is : place ≡ id_place item

-- the fault stands at this place
abbrev pub StandsAt : Source → ModelFault → ℕ → Type 0
StandsAt s (faults.UnknownClass name) place = (item : Item) × IsItem s item × IsUnknownClass item place name
StandsAt s (faults.UnknownProperty id prop) place = (item : Item) × IsItem s item × IsUnknownProperty s item place id prop
StandsAt s (faults.WrongValue id prop) place = (item : Item) × IsItem s item × IsWrongValue s item place id prop
StandsAt s (faults.DuplicateId id) place = IsDuplicate s place id
StandsAt s fault place = ⊥

-- By what references write

-- an object, the number of a property in class order, and the number of what the object writes there, each from 0
pub record Spot : Type 0 where
  pub object : ℕ
  pub property : ℕ
  pub target : ℕ

-- the first spot is written before the second
pub data IsBefore (a b : Spot) : Type 0 where
  ByObject : (object : a.object < b.object) → IsBefore a b
  ByProperty : (object : a.object ≡ b.object) (property : a.property < b.property) → IsBefore a b
  ByTarget : (object : a.object ≡ b.object) (property : a.property ≡ b.property) (target : a.target < b.target) → IsBefore a b

-- the object writes the target there at the reference p; what an attribute of a data type writes is a value, and no target
pub record IsWritten (s : Source) (spot : Spot) (p : ℕ) (target : Target) : Type 0 where
  pub property : slice_get (props_or_none s.meta (class_of s spot.object)) spot.property ≡ Some p
  pub reference : is_class_type (type_of s.meta p) ≡ true
  pub target_is : slice_get (targets_at s spot.object p) spot.target ≡ Some target

-- the target is the object b, of the property's type
pub record IsNamed (s : Source) (p : ℕ) (target : Target) (b : ℕ) : Type 0 where
  pub number : target_number s target ≡ Some b
  pub class : ℕ
  pub class_is : class_of s b ≡ Some class
  pub conforms : ConformsTo s.meta class (type_of s.meta p)

-- Dangling: the target is no object of the property's type
pub record IsDangling (s : Source) (spot : Spot) (id prop reference : List ℕ) : Type 0 where
  pub p : ℕ
  pub target : Target
  pub written : IsWritten s spot p target
  pub nothing : (b : ℕ) → ¬ IsNamed s p target b
  pub id_is : id ≡ id_of s spot.object
  pub prop_is : prop ≡ prop_name s.meta p
  pub reference_is : reference ≡ target_text (id_of s) target

-- what is written makes b a part of a, by the composite property p: at p itself, or at its opposite
abbrev pub MakesPart : Source → Spot → ℕ → ℕ → ℕ → ℕ → ℕ → Type 0
MakesPart s spot r c a b p =
    ((r ≡ p) × (spot.object ≡ a) × (c ≡ b)) ⊎ ((opposite_of s.meta p ≡ Some r) × (spot.object ≡ b) × (c ≡ a))

pub record IsPartWritten (s : Source) (spot : Spot) (a b p : ℕ) : Type 0 where
  pub r : ℕ
  pub target : Target
  pub c : ℕ
  pub written : IsWritten s spot r target
  pub named : target_number s target ≡ Some c
  pub composite : (prop_at s.meta p).composite ≡ true
  pub part : MakesPart s spot r c a b p

-- TwoContainers: what is written makes an object a part of another one, or by another property, than what is written before
pub record IsContainedTwice (s : Source) (spot : Spot) (id : List ℕ) : Type 0 where
  pub object : ℕ
  pub a : ℕ
  pub p : ℕ
  pub part : IsPartWritten s spot a object p
  pub earlier : Spot
  pub before : IsBefore earlier spot
  pub b : ℕ
  pub q : ℕ
  pub other_part : IsPartWritten s earlier b object q
  pub differs : (a ≢ b) ⊎ (p ≢ q)
  pub id_is : id ≡ id_of s object

-- Mismatch: the object that is named speaks at the opposite, and doesn't name the one that names it
pub record IsMismatch (s : Source) (spot : Spot) (id prop other other_prop : List ℕ) : Type 0 where
  pub p : ℕ
  pub target : Target
  pub written : IsWritten s spot p target
  pub b : ℕ
  pub named : target_number s target ≡ Some b
  pub q : ℕ
  pub disputed : IsDisputed s p spot.object b q
  pub id_is : id ≡ id_of s spot.object
  pub prop_is : prop ≡ prop_name s.meta p
  pub other_is : other ≡ id_of s b
  pub other_prop_is : other_prop ≡ prop_name s.meta q

-- the fault stands at this spot
abbrev pub StandsBy : Source → ModelFault → Spot → Type 0
StandsBy s (faults.Dangling id prop reference) spot = IsDangling s spot id prop reference
StandsBy s (faults.TwoContainers id) spot = IsContainedTwice s spot id
StandsBy s (faults.Mismatch id prop other other_prop) spot = IsMismatch s spot id prop other other_prop
StandsBy s fault spot = ⊥
