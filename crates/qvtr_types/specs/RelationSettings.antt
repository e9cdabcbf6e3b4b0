-- What the expressions and templates of a relation are resolved over: names in reach, models and variables that are those of a setting.
use Rattle.std.specs.Prelude.{◌≡◌, ℕ, List, map, Contains}
use Rattle.qv_syntax.specs.declared.program.Var.{Var}
use Rattle.qv_syntax.specs.declared.script.RelationTree.{RelationTree}
use Rattle.ocl_environments.specs.declared.fault.TypeFault.{TypeFault}
use Rattle.qvtr_types.specs.declared.domains.RelationScope.{RelationScope}
use Rattle.script_scopes.specs.Occurrences.{relations_of, variables_of}
use Rattle.script_scopes.specs.Environments.{Setting, in_relation, slots_of, metamodel_names}
use Rattle.script_scopes.specs.Refusals.{AreInOrder}
use Rattle.script_scopes.specs.Faults.{StandsInDeclarations, AreVariables}
use Rattle.script_scopes.specs.FirstEntries.{first_entries}
use Rattle.script_scopes.specs.VariableTypes.{metamodel_numbers}

-- the relation is one of the setting's script, in whose declarations no fault stands, these are its variables, and what is in reach is that of
-- the setting
pub record IsReachOf (s : Setting) (r : RelationTree) (vars : List Var) (scope : RelationScope) : Type 0 where
  pub reach : in_relation s r vars ≡ scope.env.now
  pub models : scope.names.now.models ≡ first_entries (metamodel_numbers (slots_of s.script))
  pub metas : scope.names.now.metas ≡ metamodel_names s.script
  pub variables : map (λ e. e.0) scope.variables.now ≡ variables_of r
  pub order : AreInOrder s.script s.target
  pub among : Contains (relations_of s.script) r
  pub are : AreVariables s r vars
  pub declared : (f : TypeFault) → ¬ StandsInDeclarations s r f
