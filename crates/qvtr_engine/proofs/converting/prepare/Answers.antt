use Rattle.std.proofs.Common.{subst, [], ◌∷◌}
use Rattle.std.specs.Prelude.{IfSome}
use Rattle.std.proofs.lemmas.Result.{err_from_is_err_and, MatchResult-weaker}
use Rattle.vault_io.specs.Counts.{Rose}
use Rattle.model_assembly.specs.declared.fault.Externs.TheVariants as externs
use Rattle.model_files.specs.Files.{IsFileError}
use Rattle.qvtr_engine.specs.ConvertView.{convert_view}
use Rattle.qvtr_engine.specs.Converting.{IsTextAt}
use Rattle.qvtr_engine.specs.FileStops.{Stops}
use Rattle.qvtr_engine.specs.Stops.{StoppedBy}
use Rattle.qvtr_engine.proofs.ConvertingLaws.{metamodel_stopped, model_stopped, output_stopped, due_put}
use Rattle.qvtr_engine.proofs.converting.prepare.Goals as goal

pub returns-in_err-meta-clause-err : goal.returns-in_err-meta-clause-err
returns-in_err-meta-clause-err g c =
    let p = err_from_is_err_and c.from_residual.result c.from_residual.ensures.1 in
    rw (p.1, p.2) (metamodel_stopped c.in_err-meta.field-0.0 (g.F.Vault.files c.args.vault.now) (convert_view c.args.request.now) _ c.in_err-meta.ensures.err)

pub returns-in_err-text-clause-err : goal.returns-in_err-text-clause-err
returns-in_err-text-clause-err g c =
    let p = err_from_is_err_and c.from_residual-in_err-text.result c.from_residual-in_err-text.ensures.1 in
    let told = g.F.Vault.files c.args.vault.now in
    let before = g.F.Vault.faults c.args.vault.now in
    let mid = g.F.Vault.faults c.metamodel_at.new.vault in
    let after = g.F.Vault.faults c.text_at-text.new.vault in
    let stop = c.in_err-text.field-0.0 in
    let words = convert_view c.args.request.now in
    let meta = c.in_ok-meta.meta in
    let failed = subst (λ t. StoppedBy stop t (λ files. Stops files words.model meta (IsFileError meta externs.None)) (Rose mid after) (words.model ∷ [])) c.in_ok-meta.ensures.files
    c.in_err-text.ensures.err in
    rw (p.1, p.2) (model_stopped stop told words meta before mid after c.in_ok-meta.ensures.faults c.in_ok-meta.ensures.ok failed)

pub returns-clause-ok : goal.returns-clause-ok
returns-clause-ok g c =
    let told = g.F.Vault.files c.args.vault.now in
    let words = convert_view c.args.request.now in
    let meta = c.in_ok-meta.meta in
    let text = c.in_ok-text.text in
    let at = subst (λ t. IfSome t (λ files. IsTextAt files words.model meta words.form text)) c.in_ok-meta.ensures.files c.in_ok-text.ensures.ok in
    MatchResult-weaker c.conversion_of.result c.conversion_of.ensures.ok
    (λ made short. due_put told words meta text made c.in_ok-meta.ensures.ok at short) (λ e t. t)

pub returns-clause-failure : goal.returns-clause-failure
returns-clause-failure g c = MatchResult-weaker c.conversion_of.result c.conversion_of.ensures.ok (λ made short. short.failure_is) (λ e t. t)

pub returns-clause-err : goal.returns-clause-err
returns-clause-err g c =
    let told = g.F.Vault.files c.args.vault.now in
    let words = convert_view c.args.request.now in
    let meta = c.in_ok-meta.meta in
    let text = c.in_ok-text.text in
    let at = subst (λ t. IfSome t (λ files. IsTextAt files words.model meta words.form text)) c.in_ok-meta.ensures.files c.in_ok-text.ensures.ok in
    MatchResult-weaker c.conversion_of.result c.conversion_of.ensures.err (λ made t. t)
    (λ stop long. output_stopped stop told words meta text _ c.in_ok-meta.ensures.ok at long)
