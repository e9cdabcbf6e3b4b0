use Rattle.std.proofs.Common.{ap, Err}
use Rattle.qvtr_engine.proofs.ReadingFileLaws.{load_failed, load_long}
use Rattle.qvtr_engine.proofs.reading_files.load_file.Goals as goal

pub returns-in-Err-Failed-clause-err : goal.returns-in-Err-Failed-clause-err
returns-in-Err-Failed-clause-err g c =
    load_failed (g.F.Vault.files c.args.vault.now) c.args.path.now (g.F.Vault.faults c.args.vault.now) (g.F.Vault.faults c.load.new.vault)
    (c.in-Err-Failed.ensures.failed (ap Err c.in-Err-Failed.field-0-is))

pub returns-in-Err-TooLong-clause-err : goal.returns-in-Err-TooLong-clause-err
returns-in-Err-TooLong-clause-err g c =
    load_long (g.F.Vault.files c.args.vault.now) c.args.path.now (c.in-Err-TooLong.ensures.too_long (ap Err c.in-Err-TooLong.field-0-is))
