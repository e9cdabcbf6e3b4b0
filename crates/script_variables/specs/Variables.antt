-- The variables of a relation with their types and models, from tables of types and of models (QVT 1.3, section 7.11.1.4).
use Rattle.std.specs.Prelude.{◌≡◌, ℕ, Bool, true, false, is_some, List, None, Some, Contains}
use Rattle.mof_metamodel.specs.NameTables.{NamesWith, value_of}
use Rattle.qv_syntax.specs.declared.ty.Ty.{Ty}
use Rattle.qv_syntax.specs.declared.program.Var.{Var}
use Rattle.ocl_environments.specs.Environments.{class_of}
use Rattle.ocl_environments.specs.declared.fault.TypeFault.{TypeFault}
use Rattle.ocl_environments.specs.declared.fault.TypeFault.TheVariants.{Unbound}
use Rattle.script_scopes.specs.Occurrences.{printed_name}
use Rattle.script_scopes.specs.Environments.{place_of}

abbrev pub is_class : Ty → Bool
is_class ty = is_some (class_of ty)

-- a variable with its type; one of objects has a model, whose number is its place among the models
pub record IsVarOf (types : NamesWith Ty) (models : NamesWith (List ℕ)) (numbers : List (List ℕ)) (name : List ℕ) (var : Var) : Type 0 where
  pub named : var.name ≡ printed_name name
  pub typed : value_of types name ≡ Some var.ty
  pub object : is_class var.ty ≡ true → (model : List ℕ) × (value_of models name ≡ Some model) × (var.model ≡ Some (place_of model numbers))
  pub data_value : is_class var.ty ≡ false → var.model ≡ None

-- a variable of objects has none
pub record LacksModel (types : NamesWith Ty) (models : NamesWith (List ℕ)) (name : List ℕ) (fault : TypeFault) : Type 0 where
  pub ty : Ty
  pub typed : value_of types name ≡ Some ty
  pub object : is_class ty ≡ true
  pub none : value_of models name ≡ None
  pub is : fault ≡ Unbound (printed_name name)

-- the fault is one of these
pub record IsModelFault (types : NamesWith Ty) (models : NamesWith (List ℕ)) (names : List (List ℕ)) (fault : TypeFault) : Type 0 where
  pub name : List ℕ
  pub among : Contains names name
  pub lacks : LacksModel types models name fault
