-- The variables of the roots of domains (QVT 1.3, section 7.11.1.6).
use Rattle.std.specs.Prelude.{◌≡◌, ℕ, List, Some, position, slice_get}
use Rattle.std.specs.List.{AllZip, zip}
use Rattle.mof_metamodel.specs.Characters.{same_name}
use Rattle.qv_syntax.specs.declared.program.Var.{Var}
use Rattle.qv_syntax.specs.declared.script.RelationTree.{RelationTree}
use Rattle.script_scopes.specs.Occurrences.{root_of, variables_of}

-- the variable of this name, among variables with these names
pub record IsNamed (names : List (List ℕ)) (vars : List Var) (v : List ℕ) (var : Var) : Type 0 where
  pub place : ℕ
  pub named : position (same_name v) names ≡ Some place
  pub found : slice_get vars place ≡ Some var

-- a variable for the root of each domain
abbrev pub HasRoots : RelationTree → List Var → List Var → Type 0
HasRoots r vars roots = AllZip (λ d root. IsNamed (variables_of r) vars (root_of d) root) r.domains roots

-- the same of relations with their variables
abbrev pub AreRootsOf : List RelationTree → List (List Var) → List (List Var) → Type 0
AreRootsOf relations vars roots = AllZip (λ p rs. HasRoots p.0 p.1 rs) (zip relations vars) roots
