-- Each relation of a script has one list of variables (QVT 1.3, section 7.11.1.4).
use Rattle.std.specs.Prelude.{◌≡◌, List, Contains}
use Rattle.qv_syntax.specs.declared.script.RelationTree.{RelationTree}
use Rattle.qv_syntax.specs.declared.program.Var.{Var}
use Rattle.script_scopes.specs.Occurrences.{relations_of}
use Rattle.script_scopes.specs.Environments.{Setting}
use Rattle.script_scopes.specs.Faults.{AreVariables}

-- with their types and models, as they are where no fault stands in declarations
abbrev pub HaveOneList : Setting → Type 0
HaveOneList s = (r : RelationTree) → Contains (relations_of s.script) r → (vars : List Var) × AreVariables s r vars × ((other : List Var) → AreVariables s r other → other ≡ vars)
