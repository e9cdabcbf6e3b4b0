-- What the relations of a script are resolved over: tables of the script, and the roots of its relations, that are those of a setting.
use Rattle.std.specs.Prelude.{◌≡◌, ℕ, List, map, chars, All, Contains}
use Rattle.std.specs.List.{AllZip}
use Rattle.qv_syntax.specs.declared.program.Var.{Var}
use Rattle.qv_syntax.specs.declared.script.RelationTree.{RelationTree}
use Rattle.ocl_environments.specs.declared.fault.TypeFault.{TypeFault}
use Rattle.ocl_environments.specs.Environments.{Environment, without_variables}
use Rattle.qvtr_types.specs.declared.relations.ScriptScope.{ScriptScope}
use Rattle.script_scopes.specs.Conjuncts.{clause_conjuncts}
use Rattle.script_scopes.specs.Occurrences.{relations_of, variables_of}
use Rattle.script_scopes.specs.Directions.{IsMisplaced}
use Rattle.script_scopes.specs.Environments.{Setting, in_script, in_relation, slots_of, metamodel_names}
use Rattle.script_scopes.specs.Declarations.{relation_names}
use Rattle.script_scopes.specs.Refusals.{AreInOrder}
use Rattle.script_scopes.specs.Faults.{StandsInDeclarations, AreVariables}
use Rattle.script_scopes.specs.FirstEntries.{first_entries}
use Rattle.script_scopes.specs.VariableTypes.{metamodel_numbers}
use Rattle.script_variables.specs.SettledRelations.{HaveOneType, AllBound}
use Rattle.qvtr_types.specs.RootVariables.{HasRoots}
use Rattle.qvtr_types.specs.ResolvedConjuncts.{ClauseReach}
use Rattle.qvtr_types.specs.LoneArguments.{CallsRelated}

-- ---- relations

-- the relation is one of the script, no fault stands in its declarations, and these are its variables and no others, each of one type, each
-- data variable bound
pub record IsDeclared (s : Setting) (r : RelationTree) (vars : List Var) : Type 0 where
  pub among : Contains (relations_of s.script) r
  pub faultless : (f : TypeFault) → ¬ StandsInDeclarations s r f
  pub are : AreVariables s r vars
  pub only : (other : List Var) → AreVariables s r other → other ≡ vars
  pub one : HaveOneType s r vars
  pub bound : AllBound s r

-- these are the roots of its domains
pub record IsSettledWith (s : Setting) (r : RelationTree) (roots : List Var) : Type 0 where
  pub vars : List Var
  pub declared : IsDeclared s r vars
  pub has : HasRoots r vars roots

-- ---- a script

-- the roots of the domains of each relation, as the code has them
abbrev pub scope_roots : ScriptScope → List (List Var)
scope_roots scope = map (map (λ r. r.now)) scope.roots.now

-- The names of the script are in order, no relation is called in a wrong place, each relation has its variables, and these are its tables and
-- its roots.
pub record IsScriptScopeOf (s : Setting) (env : Environment) (scope : ScriptScope) : Type 0 where
  pub reach : in_script s ≡ env
  pub aimed : s.target ≡ chars scope.target.now
  pub models : scope.names.now.models ≡ first_entries (metamodel_numbers (slots_of s.script))
  pub metas : scope.names.now.metas ≡ metamodel_names s.script
  pub order : AreInOrder s.script s.target
  pub placed : (r : RelationTree) (name : List ℕ) → Contains (relations_of s.script) r → ¬ IsMisplaced s.script r name
  pub relations : map (λ e. e.0) scope.relations.now ≡ relation_names s.script
  pub roots : AllZip (IsSettledWith s) (relations_of s.script) (scope_roots scope)

-- ---- before variables are in reach

-- what calls are looked through over
abbrev pub reach_before : Setting → List (List Var) → RelationTree → ClauseReach
reach_before s roots r = record { env = in_script s; variables = variables_of r; relations = relation_names s.script; roots = roots }

-- variables that stand alone as arguments are related to the roots in whose places they stand
pub record HasRelatedArguments (s : Setting) (r : RelationTree) (vars : List Var) (roots : List (List Var)) : Type 0 where
  pub whens : All (CallsRelated (reach_before s roots r) vars) (clause_conjuncts r.when)
  pub wheres : All (CallsRelated (reach_before s roots r) vars) (clause_conjuncts r.wheres)

-- ---- where they are

-- the variables of the relation are in reach, and all else is that of the script
pub record IsRelationReach (s : Setting) (r : RelationTree) (vars : List Var) (env : Environment) (scope : ScriptScope) : Type 0 where
  pub reach : in_relation s r vars ≡ env
  pub script : IsScriptScopeOf s (without_variables env) scope
  pub declared : IsDeclared s r vars
