-- Types and models that go together (OCL 2.4, section 8.2.1), as tests.
use Rattle.std.specs.Prelude.{ℕ, Bool, true, false, ◌&&◌, ◌||◌, ◌==◌, nat_lt, nat_eq, if◌then◌else◌, List, [], ◌∷◌, Option, None, Some, length, fold, Ok, Err, Contains, IsTrue}
use Rattle.std.specs.List.{list_any, list_all}
use Rattle.mof_metamodel.specs.declared.desc.MetaDesc.{MetaDesc}
use Rattle.mof_metamodel.specs.declared.desc.ClassId.{ClassId}
use Rattle.mof_metamodel.specs.Metamodels.{class_count, lineage_of}
use Rattle.qv_syntax.specs.declared.type_tree.Kind.{Kind}
use Rattle.qv_syntax.specs.declared.type_tree.Kind.TheVariants as kinds
use Rattle.qv_syntax.specs.declared.ty.Ty.{Ty, fold-Ty, out-Ty}
use Rattle.qv_syntax.specs.declared.ty.Ty.TheOpen as of
use Rattle.ocl_environments.specs.Environments.{meta_at, class_of}
use Rattle.ocl_environments.specs.Outcomes.{RuleResult, asking, wrong_type}

-- ---- types that are one

abbrev pub same_kind : Kind → Kind → Bool
same_kind kinds.Set kinds.Set = true
same_kind kinds.Bag kinds.Bag = true
same_kind kinds.Sequence kinds.Sequence = true
same_kind kinds.OrderedSet kinds.OrderedSet = true
same_kind a b = false

-- two types are one, of what is asked of the elements of the first
abbrev pub same_layer : of.Ty-F (Ty → Bool) → of.Ty-F Ty → Bool
same_layer of.Str of.Str = true
same_layer of.Int of.Int = true
same_layer of.Bool of.Bool = true
same_layer (of.Enum m e) (of.Enum n f) = (m == n) && (e.0 == f.0)
same_layer (of.Class m c) (of.Class n d) = (m == n) && (c.0 == d.0)
same_layer (of.Coll kind is_same) (of.Coll other inner) = same_kind kind other && is_same inner
same_layer of.Null of.Null = true
same_layer a b = false

abbrev pub same_step : of.Ty-F (Ty → Bool) → Ty → Bool
same_step layer b = same_layer layer (out-Ty b)

abbrev pub same_type : Ty → Ty → Bool
same_type a b = fold-Ty (Ty → Bool) same_step a b

-- ---- what a type is

abbrev pub null_step : of.Ty-F Bool → Bool
null_step of.Null = true
null_step layer = false

-- the type of null and of invalid
abbrev pub is_null : Ty → Bool
is_null = fold-Ty Bool null_step

-- the kind of a collection, and the type of its elements
abbrev pub collection_layer : of.Ty-F Ty → Option (Kind × Ty)
collection_layer (of.Coll kind inner) = Some (kind, inner)
collection_layer layer = None

abbrev pub collection_parts : Ty → Option (Kind × Ty)
collection_parts ty = collection_layer (out-Ty ty)

abbrev pub object_step : of.Ty-F Bool → Bool
object_step (of.Class m c) = true
object_step (of.Coll kind inner) = inner
object_step layer = false

-- a class, or a collection of one: values of the type are objects, and have a model
abbrev pub has_objects : Ty → Bool
has_objects = fold-Ty Bool object_step

-- the model, if values of the type have one
abbrev pub model_for : Ty → Option ℕ → Option ℕ
model_for ty model = if has_objects ty then model else None

-- ---- conformance

-- a class of the metamodel of number m is another, or has it among the classes that it inherits from
abbrev pub class_fits : List MetaDesc → ℕ → ClassId → ClassId → Bool
class_fits metas m c d = nat_lt m (length metas) && nat_lt c.0 (class_count (meta_at metas m)) && list_any (nat_eq d.0) (lineage_of (meta_at metas m) c.0)

abbrev pub fits_by : List MetaDesc → Ty → Ty → Option (ℕ × ClassId) → Option (ℕ × ClassId) → Bool
fits_by metas a b (Some c) (Some d) = (c.0 == d.0) && class_fits metas c.0 c.1 d.1
fits_by metas a b (Some c) None = same_type a b
fits_by metas a b None d = same_type a b

-- a type conforms to another: they are one, or classes of one metamodel of which the first conforms to the second
abbrev pub fits : List MetaDesc → Ty → Ty → Bool
fits metas a b = fits_by metas a b (class_of a) (class_of b)

-- one of two types conforms to the other
abbrev pub are_related : List MetaDesc → Ty → Ty → Bool
are_related metas a b = fits metas a b || fits metas b a

-- ---- the one of several types to which all conform

-- the higher of two, if the first conforms to the second
abbrev pub higher : List MetaDesc → Ty → Ty → Ty
higher metas a b = if fits metas a b then b else a

-- each of the types conforms to the one
abbrev pub all_fit : List MetaDesc → Ty → List Ty → RuleResult Ty
all_fit metas top [] = Ok top
all_fit metas top (ty ∷ types) = if fits metas ty top then all_fit metas top types else Err (wrong_type metas top ty)

-- One of the types, to which all conform. Going from left to right, a type to which the one so far conforms takes its place, so
-- that the last is the one sought, if there is one. The fault names it, and the first that doesn't conform to it.
abbrev pub agreed : List MetaDesc → Ty → List Ty → RuleResult Ty
agreed metas ty types = all_fit metas (fold (higher metas) ty types) (ty ∷ types)

-- one of the types, to which all of them conform
pub record IsTop (metas : List MetaDesc) (types : List Ty) (top : Ty) : Type 0 where
  pub among : Contains types top
  pub above : IsTrue (list_all (λ ty. fits metas ty top) types)

-- of two types
abbrev pub upper : List MetaDesc → Ty → Ty → RuleResult Ty
upper metas a b = agreed metas a (b ∷ [])

-- ---- what is asked of types beside each other

-- this very type is asked for
abbrev pub exactly : List MetaDesc → Ty → Ty → RuleResult (Unit {0})
exactly metas wanted found = asking (same_type found wanted) (wrong_type metas wanted found) (Ok tt)

-- collections of one kind, and elements that may stand in one collection
abbrev pub comparable_elements : List MetaDesc → Option (Kind × Ty) → Option (Kind × Ty) → Bool
comparable_elements metas (Some (kind, a)) (Some (other, b)) = same_kind kind other && are_related metas a b
comparable_elements metas a b = false

-- One of the two is null, or they have one type, or are classes of which one conforms to the other, or collections.
abbrev pub are_comparable : List MetaDesc → Ty → Ty → Bool
are_comparable metas a b = is_null a || is_null b || are_related metas a b || comparable_elements metas (collection_parts a) (collection_parts b)

-- the branches have one type or related classes; one that is null takes the other's type
abbrev pub branches : List MetaDesc → Ty → Ty → RuleResult Ty
branches metas one other = if is_null one then Ok other else if is_null other then Ok one else upper metas one other

-- ---- models

-- The model of objects from two places, if there are not two of them. A place without a model goes with any.
abbrev pub joined_models : Option ℕ → Option ℕ → Option (Option ℕ)
joined_models None b = Some b
joined_models (Some a) None = Some (Some a)
joined_models (Some a) (Some b) = if a == b then Some (Some a) else None
