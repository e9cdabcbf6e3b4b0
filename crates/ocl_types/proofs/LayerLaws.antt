-- Types by the layer that they are: classes, collections, `Null`, and whether their values are objects.
use Rattle.std.proofs.Common.{◌≡◌, ℕ, Bool, true, false, Option, None, Some, if◌then◌else◌, refl, sym, ap, ◌∙◌, subst}
use Rattle.std.specs.Prelude.{IsTrue, ◌↔◌}
use Rattle.std.proofs.lemmas.Option.{none-some, same_Some}
use Rattle.std.proofs.lemmas.Bool.{false≢true}
use Rattle.mof_metamodel.specs.declared.desc.ClassId.{ClassId}
use Rattle.qv_syntax.specs.declared.type_tree.Kind.{Kind}
use Rattle.qv_syntax.specs.declared.ty.Ty.{Ty, map-Ty, roll-Ty, out-Ty, fold-roll-Ty, roll-out-Ty, out-roll-Ty}
use Rattle.qv_syntax.specs.declared.ty.Ty.TheOpen as of
use Rattle.qv_syntax.specs.declared.ty.Ty.TheVariants as types
use Rattle.qv_syntax.specs.Types.{IsNoCollection}
use Rattle.ocl_environments.specs.Environments.{class_of, class_step}
use Rattle.ocl_environments.specs.Agreement.{is_null, null_step, collection_parts, collection_layer, has_objects, object_step, model_for}

-- a fact of each type, by its layer
pub by_layer : (P : Ty → Type 0) → ((l : of.Ty-F Ty) → P (roll-Ty l)) → (ty : Ty) → P ty
by_layer P each ty = subst P (roll-out-Ty ty) (each (out-Ty ty))

-- ---- classes

abbrev ClassOf : Type 0
ClassOf = Option (ℕ × ClassId)

class_layer : (l : of.Ty-F Ty) (c : ℕ × ClassId) → class_step (map-Ty Ty ClassOf class_of l) ≡ Some c → roll-Ty l ≡ types.Class c.0 c.1
class_layer of.Str c is = absurd (none-some c is)
class_layer of.Int c is = absurd (none-some c is)
class_layer of.Bool c is = absurd (none-some c is)
class_layer (of.Enum m e) c is = absurd (none-some c is)
class_layer (of.Class m d) c is = types.rolls-Class m d ∙ ap (λ (e : ℕ × ClassId). types.Class e.0 e.1) (same_Some (m, d) c is)
class_layer (of.Coll kind inner) c is = absurd (none-some c is)
class_layer of.Null c is = absurd (none-some c is)

-- a type that has a class is that class
pub is_class : (ty : Ty) (c : ℕ × ClassId) → class_of ty ≡ Some c → ty ≡ types.Class c.0 c.1
is_class ty c = by_layer (λ t. class_of t ≡ Some c → t ≡ types.Class c.0 c.1) (λ l is. class_layer l c (sym (fold-roll-Ty ClassOf class_step l) ∙ is)) ty

pub class_of_class : (m : ℕ) (c : ClassId) → class_of (types.Class m c) ≡ Some (m, c)
class_of_class m c = ap class_of (sym (types.rolls-Class m c)) ∙ fold-roll-Ty ClassOf class_step (of.Class m c)

pub class_of_collection : (kind : Kind) (inner : Ty) → class_of (types.Coll kind inner) ≡ None
class_of_collection kind inner = ap class_of (sym (types.rolls-Coll kind inner)) ∙ fold-roll-Ty ClassOf class_step (of.Coll kind inner)

-- ---- collections

collection_of_layer : (l : of.Ty-F Ty) (p : Kind × Ty) → collection_layer l ≡ Some p → roll-Ty l ≡ types.Coll p.0 p.1
collection_of_layer of.Str p is = absurd (none-some p is)
collection_of_layer of.Int p is = absurd (none-some p is)
collection_of_layer of.Bool p is = absurd (none-some p is)
collection_of_layer (of.Enum m e) p is = absurd (none-some p is)
collection_of_layer (of.Class m d) p is = absurd (none-some p is)
collection_of_layer (of.Coll kind inner) p is = types.rolls-Coll kind inner ∙ ap (λ (q : Kind × Ty). types.Coll q.0 q.1) (same_Some (kind, inner) p is)
collection_of_layer of.Null p is = absurd (none-some p is)

-- a type with the parts of a collection is that collection
pub is_collection : (ty : Ty) (p : Kind × Ty) → collection_parts ty ≡ Some p → ty ≡ types.Coll p.0 p.1
is_collection ty p is = sym (roll-out-Ty ty) ∙ collection_of_layer (out-Ty ty) p is

pub parts_of_collection : (kind : Kind) (inner : Ty) → collection_parts (types.Coll kind inner) ≡ Some (kind, inner)
parts_of_collection kind inner = ap collection_parts (sym (types.rolls-Coll kind inner)) ∙ ap collection_layer (out-roll-Ty (of.Coll kind inner))

-- without such parts it is none
pub no_collection_is : (ty : Ty) → collection_parts ty ≡ None → IsNoCollection ty
no_collection_is ty none = λ kind inner same. none-some (kind, inner) (sym none ∙ ap collection_parts same ∙ parts_of_collection kind inner)

pub no_parts : (ty : Ty) → IsNoCollection ty → collection_parts ty ≡ None
no_parts ty single = by (collection_parts ty) refl
  where
    by : (o : Option (Kind × Ty)) → collection_parts ty ≡ o → collection_parts ty ≡ None
    by None is = is
    by (Some p) is = absurd (single p.0 p.1 (is_collection ty p is))

-- ---- the type of null

null_layer : (l : of.Ty-F Ty) → null_step (map-Ty Ty Bool is_null l) ≡ true → roll-Ty l ≡ types.Null
null_layer of.Str is = absurd (false≢true is)
null_layer of.Int is = absurd (false≢true is)
null_layer of.Bool is = absurd (false≢true is)
null_layer (of.Enum m e) is = absurd (false≢true is)
null_layer (of.Class m d) is = absurd (false≢true is)
null_layer (of.Coll kind inner) is = absurd (false≢true is)
null_layer of.Null is = types.rolls-Null

null_of_null : is_null types.Null ≡ true
null_of_null = ap is_null (sym types.rolls-Null) ∙ fold-roll-Ty Bool null_step of.Null

pub null_is : (ty : Ty) → IsTrue (is_null ty) ↔ (ty ≡ types.Null)
null_is ty = (
  by_layer (λ t. is_null t ≡ true → t ≡ types.Null) (λ l is. null_layer l (sym (fold-roll-Ty Bool null_step l) ∙ is)) ty,
  λ same. ap is_null same ∙ null_of_null,
)

-- ---- objects

pub objects_of_class : (m : ℕ) (c : ClassId) → has_objects (types.Class m c) ≡ true
objects_of_class m c = ap has_objects (sym (types.rolls-Class m c)) ∙ fold-roll-Ty Bool object_step (of.Class m c)

-- a collection has objects where its elements are
pub objects_of_collection : (kind : Kind) (inner : Ty) → has_objects (types.Coll kind inner) ≡ has_objects inner
objects_of_collection kind inner = ap has_objects (sym (types.rolls-Coll kind inner)) ∙ fold-roll-Ty Bool object_step (of.Coll kind inner)

pub objects_of_null : has_objects types.Null ≡ false
objects_of_null = ap has_objects (sym types.rolls-Null) ∙ fold-roll-Ty Bool object_step of.Null

-- a model that is kept for a type is kept again
pub kept_again : (ty : Ty) (model : Option ℕ) → model_for ty (model_for ty model) ≡ model_for ty model
kept_again ty model = by (has_objects ty)
  where
    by : (b : Bool) → (if b then (if b then model else None) else None) ≡ (if b then model else None)
    by true = refl
    by false = refl

-- no model is kept as none
pub none_kept : (ty : Ty) → model_for ty None ≡ None
none_kept ty = by (has_objects ty) None refl
  where
    by : (b : Bool) (o : Option ℕ) → o ≡ None → (if b then o else None) ≡ None
    by true o is = is
    by false o is = refl

-- what is kept for a type is kept for each whose values are objects alike
pub kept_alike : (a b : Ty) (model : Option ℕ) → has_objects a ≡ has_objects b → model_for a model ≡ model → model_for b model ≡ model
kept_alike a b model same kept = ap (λ o. if o then model else None) (sym same) ∙ kept
