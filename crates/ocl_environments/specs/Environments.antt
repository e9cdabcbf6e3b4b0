-- What the expressions of a script may name: metamodels, models, variables and queries (OCL 2.4, section 9.4).
use Rattle.std.specs.Prelude.{◌≡◌, ◌≤◌, ℕ, Bool, true, false, ◌&&◌, ◌==◌, nat_lt, is_some, IsTrue, List, [], ◌∷◌, ◌++◌, Option, None, Some, ◌+◌, if◌then◌else◌, map, length, slice_index_or}
use Rattle.std.specs.List.{list_all, All, range_with_len}
use Rattle.std.specs.Option.{option_map_or}
use Rattle.mof_metamodel.specs.declared.desc.MetaDesc.{MetaDesc}
use Rattle.mof_metamodel.specs.declared.desc.ClassId.{ClassId}
pub use Rattle.mof_metamodel.specs.NameTables.{NamesWith, number_of, value_of, with_value}
use Rattle.mof_metamodel.specs.Metamodels.{class_count, enum_count}
use Rattle.mof_metamodel.specs.MetaFaults.{WellMeta}
use Rattle.qv_syntax.specs.declared.ty.Ty.{Ty, fold-Ty, out-Ty}
use Rattle.qv_syntax.specs.declared.ty.Ty.TheOpen as of
use Rattle.qv_syntax.specs.declared.query.ModelSlot.{ModelSlot}
use Rattle.ocl_environments.specs.declared.limits.TheConstants.{MAX_NUMBERED}
use Rattle.ocl_environments.specs.declared.variable.Variable.{Variable}
use Rattle.ocl_environments.specs.declared.variable.Signature.{Signature}

-- Metamodels

abbrev pub no_meta : MetaDesc
no_meta = record { name = []; classes = []; enums = [] }

-- the metamodel of this number; a number past the end has one without classes and enumerations
abbrev pub meta_at : List MetaDesc → ℕ → MetaDesc
meta_at metas m = slice_index_or metas m no_meta

-- the greatest number of metamodels, and of names of a kind
abbrev pub most : ℕ
most = MAX_NUMBERED

-- no fault stands in the metamodels
abbrev pub AreWell : List MetaDesc → Type 0
AreWell metas = All WellMeta metas

-- what stands of the metamodels of a script
pub record AreInOrder (metas : List MetaDesc) : Type 0 where
  pub few : length metas ≤ most
  pub well : AreWell metas

-- Types

-- each class and each enumeration of the type is one of these metamodels
abbrev pub is_over_step : List MetaDesc → of.Ty-F Bool → Bool
is_over_step metas of.Str = true
is_over_step metas of.Int = true
is_over_step metas of.Bool = true
is_over_step metas (of.Enum m e) = nat_lt m (length metas) && nat_lt e.0 (enum_count (meta_at metas m))
is_over_step metas (of.Class m c) = nat_lt m (length metas) && nat_lt c.0 (class_count (meta_at metas m))
is_over_step metas (of.Coll kind inner) = inner
is_over_step metas of.Null = true

abbrev pub is_over : List MetaDesc → Ty → Bool
is_over metas = fold-Ty Bool (is_over_step metas)

-- a String, an Integer, a Boolean, a literal of an enumeration or an object
abbrev pub single_step : of.Ty-F Bool → Bool
single_step of.Str = true
single_step of.Int = true
single_step of.Bool = true
single_step (of.Enum m e) = true
single_step (of.Class m c) = true
single_step (of.Coll kind inner) = false
single_step of.Null = false

abbrev pub is_single_value : Ty → Bool
is_single_value = fold-Ty Bool single_step

-- a single value, or a collection of these: no collection holds collections
abbrev pub is_flat_layer : of.Ty-F Ty → Bool
is_flat_layer of.Str = true
is_flat_layer of.Int = true
is_flat_layer of.Bool = true
is_flat_layer (of.Enum m e) = true
is_flat_layer (of.Class m c) = true
is_flat_layer (of.Coll kind inner) = is_single_value inner
is_flat_layer of.Null = false

abbrev pub is_flat : Ty → Bool
is_flat ty = is_flat_layer (out-Ty ty)

-- a type that a variable may have
abbrev pub is_type : List MetaDesc → Ty → Bool
is_type metas ty = is_over metas ty && is_flat ty

-- the number of the metamodel and the class of a class type
abbrev pub class_step : of.Ty-F (Option (ℕ × ClassId)) → Option (ℕ × ClassId)
class_step of.Str = None
class_step of.Int = None
class_step of.Bool = None
class_step (of.Enum m e) = None
class_step (of.Class m c) = Some (m, c)
class_step (of.Coll kind inner) = None
class_step of.Null = None

abbrev pub class_of : Ty → Option (ℕ × ClassId)
class_of = fold-Ty (Option (ℕ × ClassId)) class_step

-- Names in reach

-- what contracts see as `Env`
pub record Environment : Type 0 where
  pub metas : List MetaDesc
  -- the names of the metamodels
  pub names : List (List ℕ)
  pub models : List ModelSlot
  -- the variables; their numbers are their places
  pub variables : NamesWith Variable
  pub queries : NamesWith Signature

-- a variable of this name is in reach
abbrev pub is_bound : Environment → List ℕ → Bool
is_bound env name = is_some (value_of env.variables name)

-- a query of this name is in reach
abbrev pub is_query_bound : Environment → List ℕ → Bool
is_query_bound env name = is_some (value_of env.queries name)

-- a variable more
abbrev pub with_variable : Environment → List ℕ → Variable → Environment
with_variable env name variable = record env { variables = with_value env.variables name variable }

-- a query more
abbrev pub with_query : Environment → List ℕ → Signature → Environment
with_query env name signature = record env { queries = with_value env.queries name signature }

-- without the variables
abbrev pub without_variables : Environment → Environment
without_variables env = record env { variables = [] }

-- without the queries
abbrev pub without_queries : Environment → Environment
without_queries env = record env { queries = [] }

-- without both: the metamodels and the models
abbrev pub without_names : Environment → Environment
without_names env = record env { variables = []; queries = [] }

abbrev pub nothing_in_reach : Environment
nothing_in_reach = record { metas = []; names = []; models = []; variables = []; queries = [] }

-- each model has one of so many metamodels
abbrev pub have_metas : List ModelSlot → ℕ → Bool
have_metas models count = list_all (λ slot. nat_lt slot.meta count) models

abbrev pub no_slot : ModelSlot
no_slot = record { name = []; meta = 0 }

abbrev pub slot_at : List ModelSlot → ℕ → ModelSlot
slot_at models i = slice_index_or models i no_slot

-- the numbers of the models of this metamodel, from number i on
abbrev pub models_of : ℕ → ℕ → List ModelSlot → List ℕ
models_of meta i [] = []
models_of meta i (slot ∷ slots) = (if slot.meta == meta then i ∷ [] else []) ++ models_of meta (i + 1) slots

-- the one item of a list that has one
abbrev pub only : {X : Type 0} → List X → Option X
only [] = None
only (x ∷ []) = Some x
only (x ∷ y ∷ xs) = None

-- the one model of this metamodel, if there is one alone
unfoldable pub only_model : List ModelSlot → ℕ → Option ℕ
only_model models meta = only (models_of meta 0 models)

-- the same of each of so many metamodels
abbrev pub only_models : List ModelSlot → ℕ → List (Option ℕ)
only_models models count = map (only_model models) (range_with_len 0 count)

-- a type of the objects of this model: a class of its metamodel
abbrev pub is_object_type : Environment → Ty → ℕ → Bool
is_object_type env ty model = nat_lt model (length env.models)
    && option_map_or (λ c. c.0 == (slot_at env.models model).meta) (class_of ty) false && is_type env.metas ty

-- each type is one that a variable may have
abbrev pub are_types : List MetaDesc → List Ty → Bool
are_types metas types = list_all (is_type metas) types

-- a name with a variable that stands in order
abbrev pub is_variable : Environment → List ℕ × Variable → Bool
is_variable env v = option_map_or (is_object_type env v.1.ty) v.1.model (is_type env.metas v.1.ty)

-- a name with a query that stands in order
abbrev pub is_query : Environment → List ℕ × Signature → Bool
is_query env q = are_types env.metas q.1.params && is_type env.metas q.1.result

-- what stands in each environment: numbers are in range, and types are such that a variable may have them
pub record IsInOrder (env : Environment) : Type 0 where
  pub few : length env.metas ≤ most
  pub well : AreWell env.metas
  pub named : length env.names ≡ length env.metas
  pub placed : IsTrue (have_metas env.models (length env.metas))
  pub typed : IsTrue (list_all (is_variable env) env.variables)
  pub queried : IsTrue (list_all (is_query env) env.queries)
  pub few_variables : length env.variables ≤ most
  pub few_queries : length env.queries ≤ most

-- the one models of so many metamodels, as they are kept beside the models
abbrev pub IsTabled : List ModelSlot → ℕ → List (Option ℕ) → Type 0
IsTabled models count table = (length models ≤ most) × (table ≡ only_models models count)
