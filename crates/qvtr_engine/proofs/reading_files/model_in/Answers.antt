use Rattle.model_assembly.specs.declared.fault.Externs.TheVariants as externs
use Rattle.model_files.specs.Files.{IsFileError}
use Rattle.qvtr_engine.proofs.ReadingFileLaws.{stop_unread, read_by}
use Rattle.qvtr_engine.proofs.reading_files.model_in.Goals as goal

pub returns-in-Ok-clause-read : goal.returns-in-Ok-clause-read
returns-in-Ok-clause-read c = read_by c.args.meta.now c.args.bytes.now c.in-Ok.read.model c.in-Ok.ensures.model c.end.ensures.kept

pub returns-in-Err : goal.returns-in-Err
returns-in-Err c = record {
  ok = tt;
  form = tt;
  read = tt;
  err = stop_unread c.model_unread-unread.result c.args.meta.now c.args.path.now c.in-Err.error (IsFileError c.args.meta.now externs.None c.args.bytes.now) c.in-Err.ensures.fault c.model_unread-unread.ensures;
}
