-- Types and what conforms to what (OCL 2.4, section 8.2.1), over the metamodels of a script.
use Rattle.std.specs.Prelude.{◌≡◌, ◌≢◌, ◌<◌, ◌⊎◌, ℕ, Bool, true, false, List, [], ◌∷◌, Option, None, Some, slice_get, Contains, if◌then◌else◌}
use Rattle.mof_metamodel.specs.declared.desc.MetaDesc.{MetaDesc}
use Rattle.mof_metamodel.specs.declared.desc.ClassId.{ClassId}
use Rattle.mof_metamodel.specs.declared.desc.EnumId.{EnumId}
use Rattle.mof_metamodel.specs.Metamodels.{class_count, enum_count, Conforms}
use Rattle.qv_syntax.specs.declared.ty.Ty.{Ty, fold-Ty}
use Rattle.qv_syntax.specs.declared.ty.Ty.TheOpen as of
use Rattle.qv_syntax.specs.declared.ty.Ty.TheVariants as types
use Rattle.qv_syntax.specs.declared.type_tree.Kind.{Kind}

-- ---- classes and enumerations by their numbers

-- the metamodel of number m has the class
pub record IsClassIn (metas : List MetaDesc) (m : ℕ) (class : ClassId) : Type 0 where
  pub meta : MetaDesc
  pub found : slice_get metas m ≡ Some meta
  pub within : class.0 < class_count meta

-- the metamodel of number m has the enumeration
pub record IsEnumIn (metas : List MetaDesc) (m : ℕ) (enumeration : EnumId) : Type 0 where
  pub meta : MetaDesc
  pub found : slice_get metas m ≡ Some meta
  pub within : enumeration.0 < enum_count meta

-- ---- types

-- the type of a single value: a data type or a class
abbrev pub IsSingleType : List MetaDesc → Ty → Type 0
IsSingleType metas types.Str = Unit {0}
IsSingleType metas types.Int = Unit {0}
IsSingleType metas types.Bool = Unit {0}
IsSingleType metas (types.Enum m e) = IsEnumIn metas m e
IsSingleType metas (types.Class m c) = IsClassIn metas m c
IsSingleType metas ty = ⊥

-- a type that is written: one of a single value, or of a collection of single values
abbrev pub IsWrittenType : List MetaDesc → Ty → Type 0
IsWrittenType metas ty = IsSingleType metas ty ⊎ ((kind : Kind) × (inner : Ty) × (ty ≡ types.Coll kind inner) × IsSingleType metas inner)

-- no collection
abbrev pub IsNoCollection : Ty → Type 0
IsNoCollection ty = (kind : Kind) (inner : Ty) → ty ≢ types.Coll kind inner

-- ---- conformance

-- two classes of one metamodel, of which the first inherits from the second or is it
pub record IsSubclass (metas : List MetaDesc) (a b : Ty) : Type 0 where
  pub m : ℕ
  pub class : ClassId
  pub super : ClassId
  pub meta : MetaDesc
  pub found : slice_get metas m ≡ Some meta
  pub within : class.0 < class_count meta
  pub conforms : Conforms meta class.0 super.0
  pub first : a ≡ types.Class m class
  pub second : b ≡ types.Class m super

-- a type conforms to another: they are one, or classes of which the first inherits from the second
abbrev pub ConformsTo : List MetaDesc → Ty → Ty → Type 0
ConformsTo metas a b = (a ≡ b) ⊎ IsSubclass metas a b

-- one of two types conforms to the other
abbrev pub AreRelated : List MetaDesc → Ty → Ty → Type 0
AreRelated metas a b = ConformsTo metas a b ⊎ ConformsTo metas b a

-- one of the types, to which each of them conforms
pub record IsTopOf (metas : List MetaDesc) (tys : List Ty) (top : Ty) : Type 0 where
  pub among : Contains tys top
  pub above : (ty : Ty) → Contains tys ty → ConformsTo metas ty top

-- each type of a list conforms to the one at its place in the other
abbrev pub AllConform : List MetaDesc → List Ty → List Ty → Type 0
AllConform metas [] [] = Unit {0}
AllConform metas (a ∷ more) (b ∷ others) = ConformsTo metas a b × AllConform metas more others
AllConform metas tys others = ⊥

-- ---- objects and their models

abbrev pub object_step : of.Ty-F Bool → Bool
object_step (of.Class m c) = true
object_step (of.Coll kind inner) = inner
object_step layer = false

-- a class or a collection of one: values of the type are objects, and have a model
abbrev pub has_objects : Ty → Bool
has_objects = fold-Ty Bool object_step

-- the model, if values of the type have one
abbrev pub model_for : Ty → Option ℕ → Option ℕ
model_for ty model = if has_objects ty then model else None

-- the one model of objects from several places: that of each place that has one
pub record IsOneModel (models : List (Option ℕ)) (model : Option ℕ) : Type 0 where
  pub each : (m : ℕ) → Contains models (Some m) → model ≡ Some m
  pub comes : (m : ℕ) → model ≡ Some m → Contains models (Some m)
