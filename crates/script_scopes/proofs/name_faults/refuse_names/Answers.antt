use Rattle.std.proofs.Common.{◌≡◌, ℕ, List, Bor, map, ap, subst, ◌∙◌}
use Rattle.std.specs.Prelude.{All, Contains, chars}
use Rattle.std.proofs.lemmas.Result.{err_from_is_err_and}
use Rattle.qv_syntax.specs.declared.script.RelationTree.{RelationTree}
use Rattle.ocl_environments.specs.declared.fault.TypeFault.TheVariants.{UnknownModel}
use Rattle.ocl_types.proofs.QueryLemmas.{err_told, fault_of_result}
use Rattle.script_scopes.specs.ScriptNames.{model_names}
use Rattle.script_scopes.specs.Occurrences.{relations_of}
use Rattle.script_scopes.specs.Declarations.{global_names}
use Rattle.script_scopes.specs.Refusals.{IsRepeatFault, HasNamesInOrder, StandsInOne, AreInOrder}
use Rattle.script_scopes.proofs.RefusalLemmas.{given_then, all_in_order, StandsIn, target_stands, name_stands, one_stands}
use Rattle.script_scopes.proofs.name_faults.refuse_names.Goals as goal

pub returns-in_err-refuse_target-clause-fault : goal.returns-in_err-refuse_target-clause-fault
returns-in_err-refuse_target-clause-fault c =
    let target : List ℕ = chars c.args.target.now in
    let p = err_from_is_err_and c.from_residual.result c.from_residual.ensures.1 in
    err_told c.from_residual.result p.0 _ (λ f. StandsIn c.args.script.now target f) (λ f. (f ≡ UnknownModel target) × (Contains (model_names c.args.script.now.models) target → ⊥)) p.1 p.2
    (λ f h. target_stands c.args.script.now target f h) c.in_err-refuse_target.ensures.fault

pub returns-in_err-refuse_global_repeat-clause-fault : goal.returns-in_err-refuse_global_repeat-clause-fault
returns-in_err-refuse_global_repeat-clause-fault c =
    let target : List ℕ = chars c.args.target.now in
    let p = err_from_is_err_and c.from_residual-in_err-refuse_global_repeat.result c.from_residual-in_err-refuse_global_repeat.ensures.1 in
    err_told c.from_residual-in_err-refuse_global_repeat.result p.0 _ (λ f. StandsIn c.args.script.now target f) (IsRepeatFault (global_names c.args.script.now)) p.1 p.2
    (λ f h. name_stands c.args.script.now target f h) c.in_err-refuse_global_repeat.ensures.fault

abbrev shown : List (Bor RelationTree) → List RelationTree
shown rs = map {A = Bor RelationTree} {B = RelationTree} (λ r. r.now) rs

pub returns-clause-in_order : goal.returns-clause-in_order
returns-clause-in_order c =
    let names : List (List ℕ) = model_names c.args.script.now.models in
    let relations : List RelationTree = relations_of c.args.script.now in
    let known : List (List ℕ) = map {A = List ℕ × ℕ} {B = List ℕ} (λ e. e.0) c.in_ok-models.models in
    let there : shown c.as_slice.result.now ≡ relations = ap shown c.as_slice.ensures ∙ c.in_ok-relations.ensures in
    given_then c.refuse_each.result (All (HasNamesInOrder known) (shown c.as_slice.result.now)) (AreInOrder c.args.script.now (chars c.args.target.now))
    (λ all. record {
      aimed = c.in_ok-refuse_target.ensures.aimed;
      distinct = c.in_ok-refuse_global_repeat.ensures.none;
      relations = all_in_order names relations
          (subst (λ (ms : List (List ℕ)). All (HasNamesInOrder ms) relations) c.in_ok-models.ensures (subst (All (HasNamesInOrder known)) there all));
    })
    c.refuse_each.ensures.in_order

pub returns-clause-fault : goal.returns-clause-fault
returns-clause-fault c =
    let target : List ℕ = chars c.args.target.now in
    let known : List (List ℕ) = map {A = List ℕ × ℕ} {B = List ℕ} (λ e. e.0) c.in_ok-models.models in
    let there : shown c.as_slice.result.now ≡ relations_of c.args.script.now = ap shown c.as_slice.ensures ∙ c.in_ok-relations.ensures in
    fault_of_result c.refuse_each.result (StandsInOne known (shown c.as_slice.result.now)) (λ f. StandsIn c.args.script.now target f)
    (λ f h. one_stands c.args.script.now target f
    (subst (λ (ms : List (List ℕ)). StandsInOne ms (relations_of c.args.script.now) f) c.in_ok-models.ensures (subst (λ (rs : List RelationTree). StandsInOne known rs f) there h)))
    c.refuse_each.ensures.fault
