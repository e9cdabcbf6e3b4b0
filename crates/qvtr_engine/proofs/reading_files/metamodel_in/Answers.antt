use Rattle.model_files.specs.Emof.{emof}
use Rattle.model_files.specs.Files.{IsMetaFileError}
use Rattle.qvtr_engine.proofs.ReadingFileLaws.{stop_unread}
use Rattle.qvtr_engine.proofs.reading_files.metamodel_in.Goals as goal

pub returns-in-Err : goal.returns-in-Err
returns-in-Err c = record {
  ok = tt;
  err = stop_unread c.metamodel_unread-unread.result emof c.args.path.now c.in-Err.error (IsMetaFileError c.args.bytes.now) c.in-Err.ensures.fault c.metamodel_unread-unread.ensures;
}
