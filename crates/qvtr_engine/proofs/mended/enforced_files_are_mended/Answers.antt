use Rattle.qvtr_engine.proofs.MendedReplyLaws.{mended_files}
use Rattle.qvtr_engine.proofs.mended.enforced_files_are_mended.Goals as goal

pub returns : goal.returns
returns c = λ files w reply apart answer done.
    mended_files c.read_back_models_satisfy.ensures.satisfied c.read_back_models_satisfy.ensures.chains c.made_models_stay.ensures.equal c.enforced_targets_satisfy.ensures
    files w apart reply answer done
