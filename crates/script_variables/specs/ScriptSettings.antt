-- What the relations of a script are resolved over: names in reach and tables that are those of a setting, whose names are in order.
use Rattle.std.specs.Prelude.{◌≡◌, ℕ, List, map, Contains}
use Rattle.mof_metamodel.specs.NameTables.{NamesWith, value_of}
use Rattle.qv_syntax.specs.declared.script.RelationTree.{RelationTree}
use Rattle.ocl_environments.specs.declared.fault.TypeFault.{TypeFault}
use Rattle.ocl_environments.specs.Environments.{Environment}
use Rattle.script_variables.specs.declared.resolved_variables.ScriptTables.{ScriptTables}
use Rattle.script_scopes.specs.Occurrences.{relations_of}
use Rattle.script_scopes.specs.Environments.{Setting, in_script, slots_of, metamodel_names}
use Rattle.script_scopes.specs.Refusals.{AreInOrder}
use Rattle.script_scopes.specs.Faults.{StandsInDeclarations}
use Rattle.script_scopes.specs.FirstEntries.{first_entries}
use Rattle.script_scopes.specs.VariableTypes.{metamodel_numbers}
use Rattle.script_scopes.specs.ModelLists.{named_relations}

-- relations by their names, as they are in the script
abbrev pub shown_relations : ScriptTables → NamesWith RelationTree
shown_relations tables = map (λ e. (e.0, e.1.now)) tables.relations

-- the relation is one of the setting's script, and all else is that of the setting
pub record IsOneOf (s : Setting) (env : Environment) (tables : ScriptTables) (target : List ℕ) (r : RelationTree) : Type 0 where
  pub reach : in_script s ≡ env
  pub aimed : s.target ≡ target
  pub models : tables.names.models ≡ first_entries (metamodel_numbers (slots_of s.script))
  pub metas : tables.names.metas ≡ metamodel_names s.script
  pub finds : (n : List ℕ) → value_of (shown_relations tables) n ≡ value_of (named_relations (relations_of s.script)) n
  pub order : AreInOrder s.script s.target
  pub among : Contains (relations_of s.script) r

-- the same of several relations
abbrev pub AreOfScript : Setting → Environment → ScriptTables → List ℕ → List RelationTree → Type 0
AreOfScript s env tables target rs = (r : RelationTree) → Contains rs r → IsOneOf s env tables target r

-- the fault stands in the declarations of one of them
pub record StandsInOneOf (s : Setting) (rs : List RelationTree) (fault : TypeFault) : Type 0 where
  pub r : RelationTree
  pub among : Contains rs r
  pub stands : StandsInDeclarations s r fault
