-- What is known of a relation whose variables are resolved: its expressions are typed over names in order, each variable has one type, and
-- each data variable is bound (QVT 1.3, section 7.11.1).
use Rattle.std.specs.Prelude.{◌≡◌, ℕ, List, Contains}
use Rattle.std.specs.List.{AllZip}
use Rattle.qv_syntax.specs.declared.ty.Ty.{Ty}
use Rattle.qv_syntax.specs.declared.program.Var.{Var}
use Rattle.qv_syntax.specs.declared.script.RelationTree.{RelationTree}
use Rattle.ocl_environments.specs.Environments.{IsInOrder}
use Rattle.script_scopes.specs.Occurrences.{variables_of}
use Rattle.script_scopes.specs.Divisions.{IsBound}
use Rattle.script_scopes.specs.Environments.{Setting, in_script, in_relation}
use Rattle.script_scopes.specs.Declarations.{HasVariableType}
use Rattle.script_scopes.specs.Resolutions.{IsData}

-- no variable of the relation has another type than these
abbrev pub HasOneType : Setting → RelationTree → List ℕ → Var → Type 0
HasOneType s r v var = (ty : Ty) → HasVariableType s.metas s.script (in_script s) r v ty → ty ≡ var.ty

abbrev pub HaveOneType : Setting → RelationTree → List Var → Type 0
HaveOneType s r vars = AllZip (HasOneType s r) (variables_of r) vars

-- each data variable is bound
abbrev pub AllBound : Setting → RelationTree → Type 0
AllBound s r = (v : List ℕ) → Contains (variables_of r) v → IsData s r v → IsBound (IsData s r) s.target r v

pub record IsSettled (s : Setting) (r : RelationTree) (vars : List Var) : Type 0 where
  pub in_order : IsInOrder (in_relation s r vars)
  pub one : HaveOneType s r vars
  pub bound : AllBound s r
