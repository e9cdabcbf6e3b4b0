use Rattle.std.proofs.Common.{sym, subst}
use Rattle.std.specs.Prelude.{IfSome}
use Rattle.qvtr_engine.specs.FileStops.{HasShortFile}
use Rattle.std.proofs.lemmas.Result.{err_from_is_err_and}
use Rattle.model_assembly.specs.declared.fault.Externs.TheVariants as externs
use Rattle.model_files.specs.Files.{IsFileError}
use Rattle.qvtr_engine.proofs.ConvertingLaws.{text_ok}
use Rattle.qvtr_engine.proofs.ReadingFileLaws.{unloaded_stops, unread_err}
use Rattle.qvtr_engine.proofs.converting.text_at.Goals as goal

pub returns-in_err-bytes-clause-err : goal.returns-in_err-bytes-clause-err
returns-in_err-bytes-clause-err g c =
    let p = err_from_is_err_and c.from_residual.result c.from_residual.ensures.1 in
    rw (p.1, p.2) (unloaded_stops c.in_err-bytes.field-0.0 (g.F.Vault.files c.args.vault.now) c.args.path.now c.args.meta.now (IsFileError c.args.meta.now externs.None) _ _ c.in_err-bytes.ensures.err)

pub returns-clause-ok : goal.returns-clause-ok
returns-clause-ok g c =
    let told = g.F.Vault.files c.args.vault.now in
    text_ok c.text_of.result told c.args.path.now c.as_slice.result.now c.args.meta.now c.args.form
    (subst (λ b. IfSome told (λ files. HasShortFile files c.args.path.now b)) (sym c.as_slice.ensures) c.in_ok-bytes.ensures.ok) c.text_of.ensures.ok

pub returns-clause-err : goal.returns-clause-err
returns-clause-err g c =
    let told = g.F.Vault.files c.args.vault.now in
    unread_err c.text_of.result told c.args.path.now c.as_slice.result.now c.args.meta.now (IsFileError c.args.meta.now externs.None) _ _
    (subst (λ b. IfSome told (λ files. HasShortFile files c.args.path.now b)) (sym c.as_slice.ensures) c.in_ok-bytes.ensures.ok) c.text_of.ensures.err
