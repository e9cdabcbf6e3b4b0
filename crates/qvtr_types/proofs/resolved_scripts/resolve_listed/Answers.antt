use Rattle.std.proofs.Common.{ℕ, List, Bor, map, sym, subst}
use Rattle.std.specs.Prelude.{chars}
use Rattle.std.specs.List.{AllZip}
use Rattle.std.proofs.lemmas.Result.{err_from_is_err_and, IfOk-weaker}
use Rattle.qv_syntax.specs.declared.program.Var.{Var}
use Rattle.qv_syntax.specs.declared.script.RelationTree.{RelationTree}
use Rattle.ocl_environments.specs.declared.fault.TypeFault.{TypeFault}
use Rattle.ocl_types.proofs.QueryLemmas.{err_told, fault_of_result}
use Rattle.script_scopes.specs.Occurrences.{relations_of}
use Rattle.script_scopes.specs.Environments.{Setting}
use Rattle.script_scopes.specs.Faults.{StandsInScript}
use Rattle.script_variables.specs.ScriptSettings.{AreOfScript, StandsInOneOf}
use Rattle.qvtr_types.specs.ScriptScopes.{IsDeclared}
use Rattle.qvtr_types.specs.ResolvedScripts.{IsScriptReach, IsResolvedTo}
use Rattle.qvtr_types.proofs.ScriptLaws.{of_script, declared_stands}
use Rattle.qvtr_types.proofs.resolved_scripts.resolve_listed.Goals as goal

abbrev shown : List (Bor RelationTree) → List RelationTree
shown rs = map {A = Bor RelationTree} {B = RelationTree} (λ r. r.now) rs

pub all_variables-requires : goal.all_variables-requires
all_variables-requires c = (
  c.requires.setting.0,
  of_script c.requires.setting.0 c.args.env.now c.args.script.now (chars c.args.over.0.now) c.requires.setting.1 c.args.over.1.now c.requires.models c.requires.metas c.requires.finds
      (shown c.args.listed.0.now) c.requires.listed,
)

pub returns-in_err-vars-clause-fault : goal.returns-in_err-vars-clause-fault
returns-in_err-vars-clause-fault c =
    let target : List ℕ = chars c.args.over.0.now in
    let rs : List RelationTree = shown c.args.listed.0.now in
    let p = err_from_is_err_and c.from_residual.result c.from_residual.ensures.1 in
    err_told c.from_residual.result p.0 _
    (λ (f : TypeFault). (s : Setting) → IsScriptReach s c.args.env.now c.args.script.now target → StandsInScript s f)
    (λ (f : TypeFault). (s : Setting) → AreOfScript s c.args.env.now c.args.over.1.now target rs → StandsInOneOf s rs f) p.1 p.2
    (λ f h s reach. declared_stands s c.args.env.now c.args.script.now target reach rs c.requires.listed f
    (h s (of_script s c.args.env.now c.args.script.now target reach c.args.over.1.now c.requires.models c.requires.metas c.requires.finds rs c.requires.listed)))
    c.in_err-vars.ensures.fault

pub resolve_typed-rels-requires-clause-setting : goal.resolve_typed-rels-requires-clause-setting
resolve_typed-rels-requires-clause-setting c =
    let s : Setting = c.requires.setting.0 in
    let target : List ℕ = chars c.args.over.0.now in
    let rs : List RelationTree = shown c.args.listed.0.now in
    let all : AllZip (IsDeclared s) (relations_of c.args.script.now) c.in_ok-vars.vars =
    subst (λ (x : List RelationTree). AllZip (IsDeclared s) x c.in_ok-vars.vars) c.requires.listed
    (c.in_ok-vars.ensures.declared s (of_script s c.args.env.now c.args.script.now target c.requires.setting.1 c.args.over.1.now c.requires.models c.requires.metas c.requires.finds rs c.requires.listed)) in
    (s, c.requires.setting.1, subst (λ (vs : List (List Var)). AllZip (IsDeclared s) (relations_of c.args.script.now) vs) (sym c.as_slice.ensures) all)

-- the same whichever the setting
pub returns-clause-are : goal.returns-clause-are
returns-clause-are c =
    let target : List ℕ = chars c.args.over.0.now in
    let rs : List RelationTree = shown c.args.listed.0.now in
    IfOk-weaker c.resolve_typed-rels.result _ (λ rels. (s : Setting) → IsScriptReach s c.args.env.now c.args.script.now target → AllZip (IsResolvedTo s) (relations_of c.args.script.now) rels)
    (λ rels h s reach. h s reach
    (subst (λ (vs : List (List Var)). AllZip (IsDeclared s) (relations_of c.args.script.now) vs) (sym c.as_slice.ensures)
    (subst (λ (x : List RelationTree). AllZip (IsDeclared s) x c.in_ok-vars.vars) c.requires.listed
    (c.in_ok-vars.ensures.declared s (of_script s c.args.env.now c.args.script.now target reach c.args.over.1.now c.requires.models c.requires.metas c.requires.finds rs c.requires.listed)))))
    c.resolve_typed-rels.ensures.are

pub returns-clause-fault : goal.returns-clause-fault
returns-clause-fault c =
    let target : List ℕ = chars c.args.over.0.now in
    let rs : List RelationTree = shown c.args.listed.0.now in
    fault_of_result c.resolve_typed-rels.result _ (λ (f : TypeFault). (s : Setting) → IsScriptReach s c.args.env.now c.args.script.now target → StandsInScript s f)
    (λ f h s reach. h s reach
    (subst (λ (vs : List (List Var)). AllZip (IsDeclared s) (relations_of c.args.script.now) vs) (sym c.as_slice.ensures)
    (subst (λ (x : List RelationTree). AllZip (IsDeclared s) x c.in_ok-vars.vars) c.requires.listed
    (c.in_ok-vars.ensures.declared s (of_script s c.args.env.now c.args.script.now target reach c.args.over.1.now c.requires.models c.requires.metas c.requires.finds rs c.requires.listed)))))
    c.resolve_typed-rels.ensures.fault
