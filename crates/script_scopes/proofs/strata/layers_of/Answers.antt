use Rattle.std.proofs.Common.{◌≡◌, ℕ, List, Bor, map, ◌∙◌, subst}
use Rattle.std.specs.Prelude.{IfOk}
use Rattle.qv_syntax.specs.declared.script.RelationTree.{RelationTree}
use Rattle.call_graph.specs.Graphs.{Graph}
use Rattle.call_graph.specs.Strata.{AreLayers}
use Rattle.script_scopes.specs.CallRows.{when_rows, where_rows}
use Rattle.script_scopes.proofs.strata.layers_of.Goals as goal

pub returns : goal.returns
returns c =
    let keys : List (List ℕ) = map {A = List ℕ × ℕ} {B = List ℕ} (λ e. e.0) c.args.names.now in
    let rs : List RelationTree = map {A = Bor RelationTree} {B = RelationTree} (λ r. r.now) c.args.relations.now in
    let whens : c.as_slice.result.now ≡ when_rows keys rs = c.as_slice.ensures ∙ c.in_ok-whens.ensures in
    let wheres : c.as_slice-2.result.now ≡ where_rows keys rs = c.as_slice-2.ensures ∙ c.in_ok-wheres.ensures in
    subst (λ (h : Graph). IfOk c.strata.result (AreLayers (when_rows keys rs) h)) wheres
    (subst (λ (w : Graph). IfOk c.strata.result (AreLayers w c.as_slice-2.result.now)) whens c.strata.ensures)
