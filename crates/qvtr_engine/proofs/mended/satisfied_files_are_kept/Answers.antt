use Rattle.qvtr_engine.proofs.MendedReplyLaws.{satisfied_files_stay}
use Rattle.qvtr_engine.proofs.mended.satisfied_files_are_kept.Goals as goal

pub returns : goal.returns
returns c = λ files w reply yes needed answer done. satisfied_files_stay c.satisfied_models_stay.ensures.report files w yes needed reply answer done
