use Rattle.std.proofs.Common.{sym, subst}
use Rattle.model_assembly.specs.declared.fault.Externs.TheVariants as externs
use Rattle.model_files.specs.declared.file_form.Form.{Form}
use Rattle.model_files.specs.Files.{SpellsIn}
use Rattle.model_files.proofs.FileLaws.{no_error_in}
use Rattle.model_files.proofs.MetaFileLaws.{known_in}
use Rattle.model_files.proofs.files.read_any.Goals as goal

pub returns-in-Err-clause-printable : goal.returns-in-Err-clause-printable
returns-in-Err-clause-printable c = known_in c.args.meta.now externs.None c.args.bytes.now c.form_of-form.result c.in-Err.error c.in-Err.ensures.fault

pub returns-in-Err-clause-only : goal.returns-in-Err-clause-only
returns-in-Err-clause-only c m spelled =
    no_error_in c.args.meta.now externs.None c.args.bytes.now m c.form_of-form.result
    (subst (λ (form : Form). SpellsIn c.args.meta.now externs.None c.args.bytes.now form m) (sym c.form_of-form.ensures) spelled) c.in-Err.error c.in-Err.ensures.fault
