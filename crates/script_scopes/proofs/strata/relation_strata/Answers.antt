use Rattle.std.proofs.Common.{◌≡◌, ℕ, List, Bor, map, sym, ◌∙◌, ap, subst}
use Rattle.std.specs.Prelude.{Contains}
use Rattle.std.specs.List.{AllZip}
use Rattle.std.proofs.lemmas.Result.{IfOk-weaker}
use Rattle.qv_syntax.specs.declared.script.RelationTree.{RelationTree}
use Rattle.call_graph.specs.declared.layers.Layers.{Layers}
use Rattle.call_graph.specs.declared.layers.Layers.TheVariants.{Layered}
use Rattle.ocl_environments.specs.declared.fault.TypeFault.{TypeFault}
use Rattle.ocl_environments.specs.Written.{IfFault}
use Rattle.ocl_types.proofs.QueryLemmas.{fault_of_result}
use Rattle.script_scopes.specs.Occurrences.{relations_of}
use Rattle.script_scopes.specs.Declarations.{relation_names}
use Rattle.script_scopes.specs.Directions.{IsStratum, IsOnWhenCycle}
use Rattle.script_scopes.specs.Environments.{Setting}
use Rattle.script_scopes.specs.Faults.{StandsInScript}
use Rattle.script_scopes.specs.CallRows.{IsAmong, IsCycleFault}
use Rattle.script_scopes.proofs.CallRowLaws.{layers_are, layered_strata, none_cyclic, cyclic_among, cycle_stands, once_all, relations_once}
use Rattle.script_scopes.proofs.strata.relation_strata.Goals as goal

pub refuse_cycle-requires : goal.refuse_cycle-requires
refuse_cycle-requires c =
    let script = c.args.script.now in
    let once = relations_once script c.requires in
    let rs : List RelationTree = map {A = Bor RelationTree} {B = RelationTree} (λ r. r.now) c.as_slice-listed.result.now in
    let keys : List (List ℕ) = map {A = List ℕ × ℕ} {B = List ℕ} (λ e. e.0) c.in_ok-names.names in
    let same_rs : rs ≡ relations_of script = ap (map {A = Bor RelationTree} {B = RelationTree} (λ r. r.now)) c.as_slice-listed.ensures ∙ c.in_ok-relations.ensures in
    let same_keys : keys ≡ relation_names script = c.in_ok-names.ensures ∙ once_all (relation_names script) once in
    let layers : Layers = c.in_ok-layers.layers in
    let are = layers_are script once keys rs layers same_keys same_rs c.in_ok-layers.ensures in
    subst (λ (r : List RelationTree). IsAmong r layers) (sym same_rs) (cyclic_among script once layers are)

pub returns-clause-strata : goal.returns-clause-strata
returns-clause-strata c =
    let script = c.args.script.now in
    let once = relations_once script c.requires in
    let rs : List RelationTree = map {A = Bor RelationTree} {B = RelationTree} (λ r. r.now) c.as_slice-listed.result.now in
    let keys : List (List ℕ) = map {A = List ℕ × ℕ} {B = List ℕ} (λ e. e.0) c.in_ok-names.names in
    let same_rs : rs ≡ relations_of script = ap (map {A = Bor RelationTree} {B = RelationTree} (λ r. r.now)) c.as_slice-listed.ensures ∙ c.in_ok-relations.ensures in
    let same_keys : keys ≡ relation_names script = c.in_ok-names.ensures ∙ once_all (relation_names script) once in
    let layers : Layers = c.in_ok-layers.layers in
    let are = layers_are script once keys rs layers same_keys same_rs c.in_ok-layers.ensures in
    IfOk-weaker c.refuse_cycle.result (λ (strata : List ℕ). layers ≡ Layered strata) (AllZip (IsStratum script) (relations_of script)) (λ strata is. layered_strata script once layers strata are is) c.refuse_cycle.ensures.none

pub returns-clause-none : goal.returns-clause-none
returns-clause-none c =
    let script = c.args.script.now in
    let once = relations_once script c.requires in
    let rs : List RelationTree = map {A = Bor RelationTree} {B = RelationTree} (λ r. r.now) c.as_slice-listed.result.now in
    let keys : List (List ℕ) = map {A = List ℕ × ℕ} {B = List ℕ} (λ e. e.0) c.in_ok-names.names in
    let same_rs : rs ≡ relations_of script = ap (map {A = Bor RelationTree} {B = RelationTree} (λ r. r.now)) c.as_slice-listed.ensures ∙ c.in_ok-relations.ensures in
    let same_keys : keys ≡ relation_names script = c.in_ok-names.ensures ∙ once_all (relation_names script) once in
    let layers : Layers = c.in_ok-layers.layers in
    let are = layers_are script once keys rs layers same_keys same_rs c.in_ok-layers.ensures in
    IfOk-weaker c.refuse_cycle.result (λ (strata : List ℕ). layers ≡ Layered strata) (λ (strata : List ℕ). (r : RelationTree) → Contains (relations_of script) r → IsOnWhenCycle script r → ⊥)
    (λ strata is. none_cyclic script once strata (layered_strata script once layers strata are is)) c.refuse_cycle.ensures.none

pub returns-clause-fault : goal.returns-clause-fault
returns-clause-fault c =
    let script = c.args.script.now in
    let once = relations_once script c.requires in
    let rs : List RelationTree = map {A = Bor RelationTree} {B = RelationTree} (λ r. r.now) c.as_slice-listed.result.now in
    let keys : List (List ℕ) = map {A = List ℕ × ℕ} {B = List ℕ} (λ e. e.0) c.in_ok-names.names in
    let same_rs : rs ≡ relations_of script = ap (map {A = Bor RelationTree} {B = RelationTree} (λ r. r.now)) c.as_slice-listed.ensures ∙ c.in_ok-relations.ensures in
    let same_keys : keys ≡ relation_names script = c.in_ok-names.ensures ∙ once_all (relation_names script) once in
    let layers : Layers = c.in_ok-layers.layers in
    let are = layers_are script once keys rs layers same_keys same_rs c.in_ok-layers.ensures in
    fault_of_result c.refuse_cycle.result (IsCycleFault (relations_of script) layers) (λ (f : TypeFault). (s : Setting) → s.script ≡ script → StandsInScript s f) (λ f h. cycle_stands script once layers f are h)
    (subst (λ (r : List RelationTree). IfFault c.refuse_cycle.result (IsCycleFault r layers)) same_rs c.refuse_cycle.ensures.fault)
