-- The metamodel that a model of EMOF describes (MOF 2.5.1, 12.4): its one top Package, with the Classes and the Enumerations that the
-- Package owns, in their order. A superclass, a type or the class of an opposite that isn't owned by the Package has no name in the description,
-- so that it names nothing there. A primitive type may stand anywhere.
use Rattle.std.specs.Prelude.{◌≡◌, ◌≢◌, ℕ, ◌&&◌, not, Bool, false, List, [], ◌∷◌, map, filter, length, codes, Option, None, Some, if◌then◌else◌}
use Rattle.std.specs.List.{range_with_len}
use Rattle.std.specs.Option.{option_map}
use Rattle.mof_metamodel.specs.declared.desc.MetaDesc.{MetaDesc}
use Rattle.mof_metamodel.specs.declared.desc.ClassDesc.{ClassDesc}
use Rattle.mof_metamodel.specs.declared.desc.EnumDesc.{EnumDesc}
use Rattle.mof_metamodel.specs.declared.desc.PropDesc.{PropDesc}
use Rattle.mof_metamodel.specs.declared.desc.OppDesc.{OppDesc}
use Rattle.mof_metamodel.specs.Metamodels.{is_primitive}
use Rattle.mof_metamodel.specs.MetaFaults.{is_number, IsFirstFault}
use Rattle.mof_metamodel.specs.WellMeta.{WellMeta}
use Rattle.object_tables.specs.declared.value.Value.{Value}
use Rattle.object_tables.specs.declared.value.Value.TheVariants as values
use Rattle.object_tables.specs.Models.{ModelData}
use Rattle.model_assembly.specs.Profile.{is_part}
use Rattle.model_files.specs.declared.bounds.Bounds.{Bounds}
use Rattle.model_files.specs.declared.fault.FileError.{FileError}
use Rattle.model_files.specs.declared.fault.FileError.TheVariants as errors
use Rattle.model_files.specs.Bounds.{lower_of, upper_of, bounds_from}
use Rattle.model_files.specs.Reflection.{is_of_class, values_named, partners_named, partner_named}

-- What single objects say

abbrev pub text_of : List Value → List ℕ
text_of ((values.Str text) ∷ others) = text
text_of others = []

-- a mark that isn't written is false
abbrev pub is_marked : List Value → Bool
is_marked ((values.Bool b) ∷ others) = b
is_marked others = false

abbrev pub name_of : ModelData → ℕ → List ℕ
name_of m o = text_of (values_named m o (codes "name"))

abbrev pub bounds_of : ModelData → ℕ → Bounds
bounds_of m p = bounds_from (lower_of (values_named m p (codes "lower"))) (upper_of (values_named m p (codes "upper")))

-- Names by which classifiers are meant

-- the Package owns the Class or the Enumeration
abbrev pub is_owned : ModelData → ℕ → ℕ → Bool
is_owned m root c = is_number (partner_named m c (codes "package")) root

abbrev pub owned_name : ModelData → ℕ → ℕ → List ℕ
owned_name m root c = if is_owned m root c then name_of m c else []

abbrev pub primitive_name : List ℕ → List ℕ
primitive_name name = if is_primitive name then name else []

abbrev pub classifier_name : ModelData → ℕ → ℕ → List ℕ
classifier_name m root t = if is_of_class m (codes "PrimitiveType") t then primitive_name (name_of m t) else owned_name m root t

abbrev pub type_name : ModelData → ℕ → Option ℕ → List ℕ
type_name m root None = []
type_name m root (Some t) = classifier_name m root t

abbrev pub owner_name : ModelData → ℕ → Option ℕ → List ℕ
owner_name m root None = []
owner_name m root (Some c) = owned_name m root c

-- an opposite, by the class that owns it
abbrev pub opposite_of : ModelData → ℕ → ℕ → OppDesc
opposite_of m root q = record { class = owner_name m root (partner_named m q (codes "class")); prop = name_of m q }

-- Properties, classes and enumerations

abbrev pub prop_of : ModelData → ℕ → ℕ → PropDesc
prop_of m root p =
    record {
      name = name_of m p;
      type_name = type_name m root (partner_named m p (codes "type"));
      lower = (bounds_of m p).lower;
      upper = (bounds_of m p).upper;
      composite = is_marked (values_named m p (codes "isComposite"));
      ordered = is_marked (values_named m p (codes "isOrdered"));
      opposite = option_map (opposite_of m root) (partner_named m p (codes "opposite"));
    }

abbrev pub class_of : ModelData → ℕ → ℕ → ClassDesc
class_of m root c =
    record {
      name = name_of m c;
      is_abstract = is_marked (values_named m c (codes "isAbstract"));
      supers = map (owned_name m root) (partners_named m c (codes "superClass"));
      props = map (prop_of m root) (partners_named m c (codes "ownedAttribute"));
    }

abbrev pub enum_of : ModelData → ℕ → EnumDesc
enum_of m e = record { name = name_of m e; literals = map (name_of m) (partners_named m e (codes "ownedLiteral")) }

-- what the Package owns, of the class of this name
abbrev pub owned_of_class : ModelData → ℕ → List ℕ → List ℕ
owned_of_class m root name = filter (is_of_class m name) (partners_named m root (codes "ownedType"))

-- the description of a Package
abbrev pub description_of : ModelData → ℕ → MetaDesc
description_of m root =
    record {
      name = name_of m root;
      classes = map (class_of m root) (owned_of_class m root (codes "Class"));
      enums = map (enum_of m) (owned_of_class m root (codes "Enumeration"));
    }

-- The metamodel

abbrev pub is_top_package : ModelData → ℕ → Bool
is_top_package m o = is_of_class m (codes "Package") o && not (is_part m o)

-- among all numbers of objects: one whose object is gone has no class
abbrev pub top_packages : ModelData → List ℕ
top_packages m = filter (is_top_package m) (range_with_len 0 (length m.objects))

-- the model describes a metamodel: it has one top Package, whose description this is, and no fault stands there
pub record Describes (m : ModelData) (desc : MetaDesc) : Type 0 where
  pub root : ℕ
  pub only : top_packages m ≡ root ∷ []
  pub description : desc ≡ description_of m root
  pub well : WellMeta desc

-- the fault is the first of the description
abbrev pub IsFaultOf : MetaDesc → FileError → Type 0
IsFaultOf desc (errors.Meta fault) = IsFirstFault desc fault.kind fault.name
IsFaultOf desc (errors.Text fault) = ⊥
IsFaultOf desc (errors.Json fault) = ⊥
IsFaultOf desc (errors.Content fault) = ⊥
IsFaultOf desc (errors.NoPackage n) = ⊥
IsFaultOf desc errors.NoMemory = Unit {0}

-- why a model describes no metamodel: how many top Packages it has, where that isn't one, or else the first fault of the description
abbrev pub IsWhy : ModelData → FileError → Type 0
IsWhy m (errors.Meta fault) = (root : ℕ) × (top_packages m ≡ root ∷ []) × IsFirstFault (description_of m root) fault.kind fault.name
IsWhy m (errors.NoPackage n) = (n ≡ length (top_packages m)) × (n ≢ 1)
IsWhy m (errors.Text fault) = ⊥
IsWhy m (errors.Json fault) = ⊥
IsWhy m (errors.Content fault) = ⊥
IsWhy m errors.NoMemory = Unit {0}
