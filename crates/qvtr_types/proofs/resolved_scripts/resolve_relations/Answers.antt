use Rattle.std.proofs.Common.{ℕ, List, Bor, map, sym, ap, subst, ◌≡◌, ◌∙◌}
use Rattle.std.specs.Prelude.{chars}
use Rattle.std.specs.List.{AllZip}
use Rattle.std.proofs.lemmas.Result.{err_from_is_err_and}
use Rattle.qv_syntax.specs.declared.script.RelationTree.{RelationTree}
use Rattle.ocl_environments.specs.declared.fault.TypeFault.{TypeFault}
use Rattle.ocl_types.proofs.QueryLemmas.{err_told}
use Rattle.script_scopes.specs.Occurrences.{relations_of}
use Rattle.script_scopes.specs.Directions.{IsStratum}
use Rattle.script_scopes.specs.Environments.{Setting}
use Rattle.script_scopes.specs.Faults.{StandsInScript}
use Rattle.script_scopes.proofs.RefusalLemmas.{given}
use Rattle.qvtr_types.specs.ResolvedScripts.{IsScriptReach}
use Rattle.qvtr_types.proofs.ScriptLaws.{names_once}
use Rattle.qvtr_types.proofs.resolved_scripts.resolve_relations.Goals as goal

pub relation_strata-requires : goal.relation_strata-requires
relation_strata-requires c = names_once c.requires.setting.0 c.args.env.now c.args.script.now (chars c.args.target.now) c.requires.setting.1

pub returns-in_err-strata-clause-fault : goal.returns-in_err-strata-clause-fault
returns-in_err-strata-clause-fault c =
    let p = err_from_is_err_and c.from_residual.result c.from_residual.ensures.1 in
    err_told c.from_residual.result p.0 _
    (λ (f : TypeFault). (s : Setting) → IsScriptReach s c.args.env.now c.args.script.now (chars c.args.target.now) → StandsInScript s f)
    (λ (f : TypeFault). (s : Setting) → s.script ≡ c.args.script.now → StandsInScript s f) p.1 p.2
    (λ f h s reach. h s reach.of_script)
    c.in_err-strata.ensures.fault

pub resolve_listed-rels-requires-clause-listed : goal.resolve_listed-rels-requires-clause-listed
resolve_listed-rels-requires-clause-listed c =
    ap (λ (rs : List (Bor RelationTree)). map {A = Bor RelationTree} {B = RelationTree} (λ r. r.now) rs) c.as_slice.ensures ∙ c.in-Ok-or_drop-relations.ensures

pub resolve_listed-rels-requires-clause-layers : goal.resolve_listed-rels-requires-clause-layers
resolve_listed-rels-requires-clause-layers c =
    subst (λ (xs : List ℕ). AllZip (IsStratum c.args.script.now) (relations_of c.args.script.now) xs) (sym c.as_slice-2.ensures) c.in_ok-strata.ensures.strata

pub returns-3-clause-layers : goal.returns-3-clause-layers
returns-3-clause-layers c = given c.resolve_listed-rels.result _ c.in_ok-strata.ensures.none
