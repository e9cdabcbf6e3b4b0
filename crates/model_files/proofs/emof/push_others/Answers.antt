use Rattle.model_files.proofs.EmofLaws.{four_pushed}
use Rattle.model_files.proofs.emof.push_others.Goals as goal

pub returns : goal.returns
returns c = four_pushed _ _ _ _ _ _ _ _ _ c.in_ok-push_optional.ensures c.in_ok-push_optional-2.ensures c.in_ok-push_optional-3.ensures c.in_ok-push_optional-4.ensures
