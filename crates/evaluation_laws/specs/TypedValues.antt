-- When a value of an expression is of a type: a value of the data type whose text is storable or whose literal is one of the enumeration, a
-- live object of a class that conforms to the class, a collection of such (OCL 2.4, sections 8.2 and 11). Null and invalid are of each type.
use Rattle.std.specs.Prelude.{◌≡◌, ℕ, ℤ, Bool, List, [], ◌∷◌, Some, slice_get, IsTrue, All}
use Rattle.mof_metamodel.specs.declared.desc.MetaDesc.{MetaDesc}
use Rattle.mof_metamodel.specs.declared.desc.ClassId.{ClassId}
use Rattle.mof_metamodel.specs.Characters.{is_storable_text}
use Rattle.object_tables.specs.declared.value.ObjId.{ObjId}
use Rattle.object_tables.specs.declared.value.Value.TheVariants as values
use Rattle.object_tables.specs.Models.{ModelData}
use Rattle.object_tables.specs.Kept.{Kept}
use Rattle.object_tables.specs.Places.{IsOfClass}
use Rattle.qv_syntax.specs.declared.ty.Ty.{Ty}
use Rattle.qv_syntax.specs.declared.ty.Ty.TheVariants as types
use Rattle.qv_syntax.specs.declared.query.ModelSlot.{ModelSlot}
use Rattle.qv_syntax.specs.TypedTrees.{Typing, IsLiteralIn}
use Rattle.qvtr_semantics.specs.declared.datum.Datum.{Datum}
use Rattle.qvtr_semantics.specs.declared.datum.Datum.TheVariants.{Obj, Val}
use Rattle.qvtr_semantics.specs.declared.out.Out.{Out}
use Rattle.qvtr_semantics.specs.declared.out.Out.TheVariants as outs
use Rattle.qvtr_semantics.specs.Objects.{Setting}

-- ---- models

-- what the model of a script is: kept, and of the metamodel of its slot
pub record IsModelFor (metas : List MetaDesc) (slot : ModelSlot) (model : ModelData) : Type 0 where
  pub kept : Kept model
  pub described : slice_get metas slot.meta ≡ Some model.meta

-- each model of the script is
abbrev pub AreModels : List MetaDesc → Setting → Type 0
AreModels metas s = (number : ℕ) (slot : ModelSlot) (model : ModelData)
    → slice_get s.slots number ≡ Some slot → slice_get s.models number ≡ Some model → IsModelFor metas slot model

-- ---- single values

-- the number is that of a live object of the model, whose metamodel has the number m and whose class conforms to this one
pub record IsObjectOf (s : Setting) (m : ℕ) (class : ClassId) (model : ℕ) (object : ObjId) : Type 0 where
  pub slot : ModelSlot
  pub placed : slice_get s.slots model ≡ Some slot
  pub typed : slot.meta ≡ m
  pub content : ModelData
  pub found : slice_get s.models model ≡ Some content
  pub of_class : IsOfClass content object.0 class.0

-- a single value of the type; an object is one of a model of which this is said
abbrev pub IsDatumIn : List MetaDesc → Setting → (ℕ → Type 0) → Ty → Datum → Type 0
IsDatumIn metas s In types.Str d = (text : List ℕ) × (d ≡ Val 0 (values.Str text)) × IsTrue (is_storable_text text)
IsDatumIn metas s In types.Int d = (i : ℤ) × (d ≡ Val 0 (values.Int i))
IsDatumIn metas s In types.Bool d = (b : Bool) × (d ≡ Val 0 (values.Bool b))
IsDatumIn metas s In (types.Enum m e) d = (literal : ℕ) × (d ≡ Val m (values.Lit e literal)) × IsLiteralIn metas m e literal
IsDatumIn metas s In (types.Class m class) d = (model : ℕ) × (object : ObjId) × (d ≡ Obj model object) × IsObjectOf s m class model object × In model
IsDatumIn metas s In ty d = ⊥

-- ---- values of expressions

-- null, invalid, a single value of the type, or a collection of its kind with elements of its elements' type
abbrev pub IsValueIn : List MetaDesc → Setting → (ℕ → Type 0) → Ty → Out → Type 0
IsValueIn metas s In ty (outs.One d) = IsDatumIn metas s In ty d
IsValueIn metas s In ty (outs.Many kind ds) = (of : Ty) × (ty ≡ types.Coll kind of) × All (IsDatumIn metas s In of) ds
IsValueIn metas s In ty outs.Null = Unit {0}
IsValueIn metas s In ty outs.Invalid = Unit {0}

-- an object of any model of the script
abbrev pub anywhere : ℕ → Type 0
anywhere model = Unit {0}

-- a single value of the type, and a value of it
abbrev pub IsDatumOf : List MetaDesc → Setting → Ty → Datum → Type 0
IsDatumOf metas s ty d = IsDatumIn metas s anywhere ty d

abbrev pub IsValueOf : List MetaDesc → Setting → Ty → Out → Type 0
IsValueOf metas s ty x = IsValueIn metas s anywhere ty x

-- the same of a type with the model of its objects
abbrev pub IsDatumOfTyping : List MetaDesc → Setting → Typing → Datum → Type 0
IsDatumOfTyping metas s t d = IsDatumIn metas s (λ model. t.model ≡ Some model) t.ty d

abbrev pub IsValueOfTyping : List MetaDesc → Setting → Typing → Out → Type 0
IsValueOfTyping metas s t x = IsValueIn metas s (λ model. t.model ≡ Some model) t.ty x

-- values of these types, each at its place
abbrev pub AreArguments : List MetaDesc → Setting → List Ty → List Out → Type 0
AreArguments metas s [] [] = Unit {0}
AreArguments metas s (ty ∷ tys) (x ∷ xs) = IsValueOf metas s ty x × AreArguments metas s tys xs
AreArguments metas s tys xs = ⊥
