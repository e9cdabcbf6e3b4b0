use Rattle.std.proofs.Common.{◌≡◌, ◌≤◌, ℕ, List, length, sym, ap, subst, ◌∙◌, refl}
use Rattle.std.specs.Prelude.{chars}
use Rattle.std.specs.List.{AllZip}
use Rattle.std.proofs.lemmas.List.{length-map}
use Rattle.std.proofs.lemmas.Result.{err_from_is_err_and}
use Rattle.mof_metamodel.specs.declared.desc.MetaDesc.{MetaDesc}
use Rattle.qv_syntax.specs.declared.query.Query.{Query}
use Rattle.qv_syntax.specs.declared.program.Rel.{Rel}
use Rattle.qv_syntax.specs.declared.script.Script.{Script}
use Rattle.ocl_environments.specs.declared.fault.TypeFault.{TypeFault}
use Rattle.ocl_environments.specs.Environments.{Environment, IsInOrder, most}
use Rattle.ocl_types.specs.QueryTyping.{signed}
use Rattle.ocl_types.proofs.QueryLemmas.{err_told}
use Rattle.script_scopes.specs.Occurrences.{relations_of}
use Rattle.script_scopes.specs.Environments.{Setting, in_script}
use Rattle.script_scopes.specs.Declarations.{keys_of, queries_of}
use Rattle.script_scopes.specs.Keys.{AreKeys, StandsInKeys}
use Rattle.script_scopes.specs.ScriptQueries.{StandsInQueries}
use Rattle.script_scopes.specs.Resolutions.{IsRelation}
use Rattle.script_scopes.specs.Faults.{StandsInScript}
use Rattle.script_variables.specs.SettledRelations.{IsSettled}
use Rattle.script_variables.proofs.VariableLaws.{zip_weaker}
use Rattle.qvtr_types.specs.ResolvedScripts.{setting_of, IsFaultOf, IsScriptReach, IsResolvedTo, program_of}
use Rattle.qvtr_types.proofs.ScriptLaws.{none_in_script, fault_anyhow, query_fault, reach_after, fault_over, none_over, is_reach, is_program}
use Rattle.qvtr_types.proofs.resolved_scripts.resolve_parts.Goals as goal

pub returns-in_err-refuse_names-clause-fault : goal.returns-in_err-refuse_names-clause-fault
returns-in_err-refuse_names-clause-fault c =
    let metas : List MetaDesc = c.args.env.now.metas in
    let target : List ℕ = chars c.args.target.now in
    let p = err_from_is_err_and c.from_residual.result c.from_residual.ensures.1 in
    err_told c.from_residual.result p.0 _ (IsFaultOf metas c.args.script.now target)
    (λ (f : TypeFault). (s : Setting) → s.script ≡ c.args.script.now → s.target ≡ target → StandsInScript s f) p.1 p.2
    (λ f h. fault_anyhow metas c.args.script.now target c.args.env.now c.requires c.query_typing_is_told.ensures.only f (λ s of_metas. h s))
    c.in_err-refuse_names.ensures.fault

pub returns-in_err-refuse_calls-clause-fault : goal.returns-in_err-refuse_calls-clause-fault
returns-in_err-refuse_calls-clause-fault c =
    let metas : List MetaDesc = c.args.env.now.metas in
    let target : List ℕ = chars c.args.target.now in
    let p = err_from_is_err_and c.from_residual-in_err-refuse_calls.result c.from_residual-in_err-refuse_calls.ensures.1 in
    err_told c.from_residual-in_err-refuse_calls.result p.0 _ (IsFaultOf metas c.args.script.now target)
    (λ (f : TypeFault). (s : Setting) → s.script ≡ c.args.script.now → s.target ≡ target → StandsInScript s f) p.1 p.2
    (λ f h. fault_anyhow metas c.args.script.now target c.args.env.now c.requires c.query_typing_is_told.ensures.only f (λ s of_metas. h s))
    c.in_err-refuse_calls.ensures.fault

pub resolve_queries-requires : goal.resolve_queries-requires
resolve_queries-requires c = ap (λ (e : Environment). e.queries) c.requires

pub returns-in_err-queries-clause-fault : goal.returns-in_err-queries-clause-fault
returns-in_err-queries-clause-fault c =
    let metas : List MetaDesc = c.args.env.now.metas in
    let target : List ℕ = chars c.args.target.now in
    let p = err_from_is_err_and c.from_residual-in_err-queries.result c.from_residual-in_err-queries.ensures.1 in
    err_told c.from_residual-in_err-queries.result p.0 _ (IsFaultOf metas c.args.script.now target) (StandsInQueries c.args.env.now (queries_of c.args.script.now)) p.1 p.2
    (query_fault metas c.args.script.now target c.args.env.now c.requires c.query_typing_is_told.ensures.only)
    c.in_err-queries.ensures.fault

pub returns-in_err-keys-clause-fault : goal.returns-in_err-keys-clause-fault
returns-in_err-keys-clause-fault c =
    let metas : List MetaDesc = c.args.env.now.metas in
    let target : List ℕ = chars c.args.target.now in
    let script : Script = c.args.script.now in
    let queries : List Query = c.in_ok-queries.queries in
    let reach : c.resolve_queries.new.env ≡ in_script (setting_of metas script target queries) =
    reach_after metas script target c.args.env.now c.requires c.query_typing_is_told.ensures.only c.resolve_queries.new.env queries c.resolve_queries.ensures.kept c.in_ok-queries.ensures.in_reach in
    let p = err_from_is_err_and c.from_residual-in_err-keys.result c.from_residual-in_err-keys.ensures.1 in
    err_told c.from_residual-in_err-keys.result p.0 _ (IsFaultOf metas script target) (StandsInKeys c.resolve_queries.new.env (keys_of script)) p.1 p.2
    (λ f stands. fault_over metas script target c.args.env.now c.requires c.query_typing_is_told.ensures.only c.resolve_queries.new.env queries c.resolve_queries.ensures.kept c.in_ok-queries.ensures.in_reach c.in_ok-queries.ensures.typed f
    (StandsInScript.key f (subst (λ (e : Environment). StandsInKeys e (keys_of script) f) reach stands)))
    c.in_err-keys.ensures.fault

pub resolve_relations-requires-clause-empty : goal.resolve_relations-requires-clause-empty
resolve_relations-requires-clause-empty c =
    ap (λ (e : Environment). e.variables)
    (reach_after c.args.env.now.metas c.args.script.now (chars c.args.target.now) c.args.env.now c.requires c.query_typing_is_told.ensures.only c.resolve_queries.new.env c.in_ok-queries.queries c.resolve_queries.ensures.kept
    c.in_ok-queries.ensures.in_reach)

pub resolve_relations-requires-clause-setting : goal.resolve_relations-requires-clause-setting
resolve_relations-requires-clause-setting c = (
  setting_of c.args.env.now.metas c.args.script.now (chars c.args.target.now) c.in_ok-queries.queries,
  is_reach c.args.env.now.metas c.args.script.now (chars c.args.target.now) c.args.env.now c.requires c.query_typing_is_told.ensures.only c.resolve_queries.new.env c.in_ok-queries.queries c.resolve_queries.ensures.kept
      c.in_ok-queries.ensures.in_reach c.in_ok-queries.ensures.typed c.in_ok-refuse_names.ensures.in_order c.in_ok-refuse_calls.ensures.placed,
)

pub returns-in_err-rels-clause-fault : goal.returns-in_err-rels-clause-fault
returns-in_err-rels-clause-fault c =
    let metas : List MetaDesc = c.args.env.now.metas in
    let target : List ℕ = chars c.args.target.now in
    let script : Script = c.args.script.now in
    let queries : List Query = c.in_ok-queries.queries in
    let p = err_from_is_err_and c.from_residual-in_err-rels.result c.from_residual-in_err-rels.ensures.1 in
    err_told c.from_residual-in_err-rels.result p.0 _ (IsFaultOf metas script target)
    (λ (f : TypeFault). (s : Setting) → IsScriptReach s c.resolve_queries.new.env script target → StandsInScript s f) p.1 p.2
    (λ f h. fault_over metas script target c.args.env.now c.requires c.query_typing_is_told.ensures.only c.resolve_queries.new.env queries c.resolve_queries.ensures.kept c.in_ok-queries.ensures.in_reach c.in_ok-queries.ensures.typed f
    (h (setting_of metas script target queries)
    (is_reach metas script target c.args.env.now c.requires c.query_typing_is_told.ensures.only c.resolve_queries.new.env queries c.resolve_queries.ensures.kept c.in_ok-queries.ensures.in_reach c.in_ok-queries.ensures.typed
    c.in_ok-refuse_names.ensures.in_order c.in_ok-refuse_calls.ensures.placed)))
    c.in_err-rels.ensures.fault

pub returns-clause-distinct : goal.returns-clause-distinct
returns-clause-distinct c = c.in_ok-refuse_names.ensures.in_order.distinct

pub returns-clause-none : goal.returns-clause-none
returns-clause-none c =
    let metas : List MetaDesc = c.args.env.now.metas in
    let target : List ℕ = chars c.args.target.now in
    let script : Script = c.args.script.now in
    let queries : List Query = c.in_ok-queries.queries in
    let s : Setting = setting_of metas script target queries in
    let reach : c.resolve_queries.new.env ≡ in_script s =
    reach_after metas script target c.args.env.now c.requires c.query_typing_is_told.ensures.only c.resolve_queries.new.env queries c.resolve_queries.ensures.kept c.in_ok-queries.ensures.in_reach in
    let over : IsScriptReach s c.resolve_queries.new.env script target =
    is_reach metas script target c.args.env.now c.requires c.query_typing_is_told.ensures.only c.resolve_queries.new.env queries c.resolve_queries.ensures.kept c.in_ok-queries.ensures.in_reach c.in_ok-queries.ensures.typed
    c.in_ok-refuse_names.ensures.in_order c.in_ok-refuse_calls.ensures.placed in
    none_over metas script target c.args.env.now c.requires c.query_typing_is_told.ensures.only c.resolve_queries.new.env queries c.resolve_queries.ensures.kept c.in_ok-queries.ensures.in_reach c.in_ok-queries.ensures.typed
    (none_in_script s c.in_ok-refuse_names.ensures.in_order c.in_ok-refuse_calls.ensures.placed (λ name. c.in_ok-refuse_calls.ensures.in_queries s name refl) c.in_ok-refuse_calls.ensures.inside c.in_ok-rels.ensures.layers
    (λ f stands. c.in_ok-keys.ensures.none f (subst (λ (e : Environment). StandsInKeys e (keys_of script) f) (sym reach) stands))
    (λ f stands. c.in_ok-queries.ensures.none f (subst (λ (e : Environment). StandsInQueries e (queries_of script) f) (sym c.requires) stands))
    c.in_ok-rels.rels (c.in_ok-rels.ensures.are s over))

pub returns-clause-ok : goal.returns-clause-ok
returns-clause-ok c =
    let metas : List MetaDesc = c.args.env.now.metas in
    let target : List ℕ = chars c.args.target.now in
    let script : Script = c.args.script.now in
    let queries : List Query = c.in_ok-queries.queries in
    let s : Setting = setting_of metas script target queries in
    let reach : c.resolve_queries.new.env ≡ in_script s =
    reach_after metas script target c.args.env.now c.requires c.query_typing_is_told.ensures.only c.resolve_queries.new.env queries c.resolve_queries.ensures.kept c.in_ok-queries.ensures.in_reach in
    let over : IsScriptReach s c.resolve_queries.new.env script target =
    is_reach metas script target c.args.env.now c.requires c.query_typing_is_told.ensures.only c.resolve_queries.new.env queries c.resolve_queries.ensures.kept c.in_ok-queries.ensures.in_reach c.in_ok-queries.ensures.typed
    c.in_ok-refuse_names.ensures.in_order c.in_ok-refuse_calls.ensures.placed in
    let resolved : AllZip (IsResolvedTo s) (relations_of script) c.in_ok-rels.rels = c.in_ok-rels.ensures.are s over in
    let none : (f : TypeFault) → StandsInScript s f → ⊥ =
    none_in_script s c.in_ok-refuse_names.ensures.in_order c.in_ok-refuse_calls.ensures.placed (λ name. c.in_ok-refuse_calls.ensures.in_queries s name refl) c.in_ok-refuse_calls.ensures.inside c.in_ok-rels.ensures.layers
    (λ f stands. c.in_ok-keys.ensures.none f (subst (λ (e : Environment). StandsInKeys e (keys_of script) f) (sym reach) stands))
    (λ f stands. c.in_ok-queries.ensures.none f (subst (λ (e : Environment). StandsInQueries e (queries_of script) f) (sym c.requires) stands))
    c.in_ok-rels.rels resolved in
    let made = is_program metas script target c.args.env.now c.requires c.query_typing_is_told.ensures.only c.resolve_queries.new.env queries c.resolve_queries.ensures.kept c.in_ok-queries.ensures.in_reach c.in_ok-queries.ensures.typed
    c.in_ok-refuse_names.ensures.in_order c.in_ok-keys.keys (subst (λ (e : Environment). AreKeys e (keys_of script) c.in_ok-keys.keys) reach c.in_ok-keys.ensures.are)
    c.in_ok-rels.rels (zip_weaker (IsResolvedTo s) (IsRelation s) (λ r rel own. own.is) (relations_of script) c.in_ok-rels.rels resolved) in
    record {
      program_of = made;
      well_formed = c.resolutions_are_well_formed.ensures s (program_of script target c.in_ok-keys.keys c.in_ok-rels.rels queries) (subst IsInOrder (c.in_ok-rels.ensures.kept ∙ reach) c.in_order.ensures) none made
          (zip_weaker (IsResolvedTo s) (λ r (rel : Rel). IsSettled s r rel.vars) (λ r rel own. own.settled) (relations_of script) c.in_ok-rels.rels resolved);
    }

pub returns-clause-few : goal.returns-clause-few
returns-clause-few c =
    subst (λ (n : ℕ). n ≤ most) (ap length (ap (λ (e : Environment). e.queries) c.in_ok-rels.ensures.kept ∙ c.in_ok-queries.ensures.in_reach) ∙ length-map c.in_ok-queries.queries signed) c.in_order.ensures.few_queries
