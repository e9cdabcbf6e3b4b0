-- What the clauses of a relation are resolved over: names in reach, variables and roots that are those of a setting.
use Rattle.std.specs.Prelude.{◌≡◌, ℕ, List, map, All, Contains}
use Rattle.std.specs.List.{AllZip}
use Rattle.qv_syntax.specs.TypedTrees.{Typing}
use Rattle.qv_syntax.specs.declared.program.Var.{Var}
use Rattle.qv_syntax.specs.declared.script.DomainTree.{DomainTree}
use Rattle.qv_syntax.specs.declared.script.RelationTree.{RelationTree}
use Rattle.qvtr_types.specs.declared.resolved_conjuncts.ClauseScope.{ClauseScope}
use Rattle.script_scopes.specs.ScriptNames.{each_once}
use Rattle.script_scopes.specs.Occurrences.{relations_of, variables_of}
use Rattle.script_scopes.specs.UniversalNames.{universal_names}
use Rattle.script_scopes.specs.Environments.{Setting, in_relation}
use Rattle.script_scopes.specs.Declarations.{relation_names, IsRepeated}
use Rattle.script_scopes.specs.Faults.{AreVariables, IsRoot}
use Rattle.qvtr_types.specs.Expressions.{HaveTypes}
use Rattle.qvtr_types.specs.PlacedFaults.{AreRoots}
use Rattle.script_variables.specs.SettledRelations.{HaveOneType}

-- the variables, as the code has them
abbrev pub vars_of : ClauseScope → List Var
vars_of scope = scope.variables.vars.now

-- the roots of the domains of each relation
abbrev pub roots_of : ClauseScope → List (List Var)
roots_of scope = map (map (λ r. r.now)) scope.roots.now

-- These are the variables of the relation, each of one type, in reach in its expressions; and the relations of the script, of which no two
-- have one name, with their roots, each of one type.
pub record IsClauseScopeOf (s : Setting) (r : RelationTree) (scope : ClauseScope) : Type 0 where
  pub reach : in_relation s r (vars_of scope) ≡ scope.env.now
  pub numbers : map (λ e. e.0) scope.variables.numbers.now ≡ variables_of r
  pub universal : map (λ e. e.0) scope.variables.universal.now ≡ each_once (universal_names s.target r)
  pub are : AreVariables s r (vars_of scope)
  pub one : HaveOneType s r (vars_of scope)
  pub relations : map (λ e. e.0) scope.relations.now ≡ relation_names s.script
  pub once : (name : List ℕ) → ¬ IsRepeated (relation_names s.script) name
  pub roots : AllZip (AreRoots s) (relations_of s.script) (roots_of scope)
  pub types : All (HaveTypes s.metas) (roots_of scope)
  pub one_root : (called : RelationTree) (domain : DomainTree) (t u : Typing) → Contains (relations_of s.script) called → IsRoot s called domain t → IsRoot s called domain u → t ≡ u
