use Rattle.std.proofs.Common.{◌≤◌, ℕ, List, [], length, sym, ap, subst, ◌∙◌}
use Rattle.std.specs.Prelude.{chars}
use Rattle.std.proofs.lemmas.Result.{err_from_is_err_and}
use Rattle.mof_metamodel.specs.declared.desc.MetaDesc.{MetaDesc}
use Rattle.qv_syntax.specs.declared.program.Program.{Program}
use Rattle.ocl_environments.specs.declared.fault.TypeError.TheVariants as errors
use Rattle.ocl_environments.specs.Environments.{Environment, most}
use Rattle.ocl_types.proofs.QueryLemmas.{err_told}
use Rattle.script_scopes.specs.Environments.{in_script}
use Rattle.script_scopes.specs.Resolutions.{IsResolution}
use Rattle.qvtr_types.specs.ResolvedScripts.{setting_of, IsFaultOf, program_of}
use Rattle.qvtr_types.proofs.resolved_scripts.resolve.Goals as goal

pub resolve_parts-parts-requires : goal.resolve_parts-parts-requires
resolve_parts-parts-requires c =
    let metas : List MetaDesc = c.args.metas.now in
    c.in_ok-env.ensures ∙ ap (λ (ms : List MetaDesc). in_script (setting_of ms c.args.script.now (chars c.args.target.now) [])) (sym (ap (λ (e : Environment). e.metas) c.in_ok-env.ensures))

pub returns-in_err-parts-clause-fault : goal.returns-in_err-parts-clause-fault
returns-in_err-parts-clause-fault c =
    let target : List ℕ = chars c.args.target.now in
    let p = err_from_is_err_and c.from_residual-in_err-parts.result c.from_residual-in_err-parts.ensures.1 in
    err_told c.from_residual-in_err-parts.result p.0 _ (IsFaultOf c.args.metas.now c.args.script.now target) (IsFaultOf c.in_ok-env.env.metas c.args.script.now target) p.1 p.2
    (λ f h. subst (λ (ms : List MetaDesc). IsFaultOf ms c.args.script.now target f) (ap (λ (e : Environment). e.metas) c.in_ok-env.ensures) h)
    c.in_err-parts.ensures.fault

pub returns-in_err-program-clause-fault : goal.returns-in_err-program-clause-fault
returns-in_err-program-clause-fault c =
    let p = err_from_is_err_and c.from_residual-in_err-program.result c.from_residual-in_err-program.ensures.1 in
    err_told c.from_residual-in_err-program.result p.0 errors.NoMemory (IsFaultOf c.args.metas.now c.args.script.now (chars c.args.target.now)) (λ f. ⊥) p.1 p.2 (λ f none. absurd none) tt

pub returns-clause-ok : goal.returns-clause-ok
returns-clause-ok c =
    let target : List ℕ = chars c.args.target.now in
    let made : Program = program_of c.args.script.now target c.in_ok-parts.parts.keys c.in_ok-parts.parts.rels c.in_ok-parts.parts.queries in
    let whole : IsResolution (setting_of c.args.metas.now c.args.script.now target made.queries) made =
    subst (λ (ms : List MetaDesc). IsResolution (setting_of ms c.args.script.now target made.queries) made) (ap (λ (e : Environment). e.metas) c.in_ok-env.ensures) c.in_ok-parts.ensures.ok in
    subst (λ (p : Program). IsResolution (setting_of c.args.metas.now c.args.script.now target p.queries) p) (sym c.in_ok-program.ensures.is) whole

pub returns-clause-distinct : goal.returns-clause-distinct
returns-clause-distinct c = c.in_ok-parts.ensures.distinct

pub returns-clause-none : goal.returns-clause-none
returns-clause-none c = λ f stands.
    c.in_ok-parts.ensures.none f (subst (λ (ms : List MetaDesc). IsFaultOf ms c.args.script.now (chars c.args.target.now) f) (sym (ap (λ (e : Environment). e.metas) c.in_ok-env.ensures)) stands)

pub returns-clause-few_queries : goal.returns-clause-few_queries
returns-clause-few_queries c = subst (λ (p : Program). length p.queries ≤ most) (sym c.in_ok-program.ensures.is) c.in_ok-parts.ensures.few
