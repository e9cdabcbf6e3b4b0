-- What it says that the names of a script and of its relations are in order, and which faults stand where they aren't (QVT 1.3, sections
-- 7.10.2 and 7.11). `Faults` has the faults of all rules; these are the ones on names alone.
use Rattle.std.specs.Prelude.{◌≡◌, ◌⊎◌, ℕ, List, Contains, All}
use Rattle.qv_syntax.specs.declared.type_tree.TypeTree.{TypeTree}
use Rattle.qv_syntax.specs.declared.script.Script.{Script}
use Rattle.qv_syntax.specs.declared.script.RelationTree.{RelationTree}
use Rattle.ocl_environments.specs.declared.fault.TypeFault.{TypeFault}
use Rattle.ocl_environments.specs.declared.fault.TypeFault.TheVariants.{UnknownName, DuplicateName}
use Rattle.script_scopes.specs.ScriptNames.{model_names}
use Rattle.script_scopes.specs.Occurrences.{relations_of, variables_of, template_variables, printed_name}
use Rattle.script_scopes.specs.Declarations.{global_names, IsRepeated, IsWrittenFor}
use Rattle.script_scopes.specs.Faults.{domain_models, typed_names}

-- the fault has a name that stands twice
pub record IsRepeatFault (names : List (List ℕ)) (fault : TypeFault) : Type 0 where
  pub name : List ℕ
  pub repeated : IsRepeated names name
  pub is : fault ≡ DuplicateName name

-- the fault has the printed name of a variable that stands twice
pub record IsPrintedRepeat (names : List (List ℕ)) (fault : TypeFault) : Type 0 where
  pub name : List ℕ
  pub repeated : IsRepeated names name
  pub is : fault ≡ DuplicateName (printed_name name)

-- the fault has a name that isn't known
pub record IsUnknownFault (known names : List (List ℕ)) (fault : TypeFault) : Type 0 where
  pub name : List ℕ
  pub among : Contains names name
  pub unknown : ¬ Contains known name
  pub is : fault ≡ UnknownName name

-- ---- of a relation

-- The names of a relation are in order, over models of these names: its domains have models, of which none stands twice, no variable is
-- declared twice or has two templates, and each has a type or a template.
pub record HasNamesInOrder (models : List (List ℕ)) (r : RelationTree) : Type 0 where
  pub known : All (Contains models) (domain_models r)
  pub one_domain : (model : List ℕ) → ¬ IsRepeated (domain_models r) model
  pub declared_once : (v : List ℕ) → ¬ IsRepeated (typed_names r) v
  pub one_template : (v : List ℕ) → ¬ IsRepeated (template_variables r) v
  pub declared : (v : List ℕ) → Contains (variables_of r) v → ((tree : TypeTree) × IsWrittenFor r v tree) ⊎ Contains (template_variables r) v

-- the faults that stand where they aren't
pub data StandsInNames (models : List (List ℕ)) (r : RelationTree) (fault : TypeFault) : Type 0 where
  unknown_model : IsUnknownFault models (domain_models r) fault → StandsInNames models r fault
  two_domains : IsRepeatFault (domain_models r) fault → StandsInNames models r fault
  declared_twice : IsRepeatFault (typed_names r) fault → StandsInNames models r fault
  two_templates : IsPrintedRepeat (template_variables r) fault → StandsInNames models r fault
  undeclared : (v : List ℕ) → Contains (variables_of r) v → ((tree : TypeTree) → ¬ IsWrittenFor r v tree) → ¬ Contains (template_variables r) v
      → fault ≡ UnknownName v → StandsInNames models r fault

-- one of the relations has such a fault
pub record StandsInOne (models : List (List ℕ)) (relations : List RelationTree) (fault : TypeFault) : Type 0 where
  pub relation : RelationTree
  pub among : Contains relations relation
  pub stands : StandsInNames models relation fault

-- ---- of a script

-- The names of a script are in order towards a target: that is one of its models, the names of models, metamodels, relations and queries
-- are distinct, and the names of each relation are in order.
pub record AreInOrder (script : Script) (target : List ℕ) : Type 0 where
  pub aimed : Contains (model_names script.models) target
  pub distinct : (name : List ℕ) → ¬ IsRepeated (global_names script) name
  pub relations : All (HasNamesInOrder (model_names script.models)) (relations_of script)
