use Rattle.std.proofs.Common.{ℕ, List, Bor, ap, ◌∙◌, map}
use Rattle.mof_metamodel.specs.NameTables.{NamesWith, value_of}
use Rattle.qv_syntax.specs.declared.script.RelationTree.{RelationTree}
use Rattle.script_scopes.specs.ModelLists.{named_relations}
use Rattle.script_variables.proofs.ModelLaws.{relations_found}
use Rattle.script_variables.proofs.resolved_variables.script_tables.Goals as goal

abbrev shown : List (Bor RelationTree) → List RelationTree
shown rs = map {A = Bor RelationTree} {B = RelationTree} (λ r. r.now) rs

pub returns-clause-relations : goal.returns-clause-relations
returns-clause-relations c = λ n.
    ap (λ (t : NamesWith (Bor RelationTree)). value_of (map (λ (e : List ℕ × Bor RelationTree). (e.0, e.1.now)) t) n) c.in_ok-relations.ensures
    ∙ relations_found c.as_slice.result.now n ∙ ap (λ (rs : List RelationTree). value_of (named_relations rs) n) (ap shown c.as_slice.ensures ∙ c.in_ok-listed.ensures)
