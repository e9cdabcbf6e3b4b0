use Rattle.model_files.proofs.EmofLaws.{three_pushed}
use Rattle.model_files.proofs.emof.push_bounds.Goals as goal

pub returns : goal.returns
returns c = three_pushed _ _ _ _ _ _ _ c.in_ok-push_optional.ensures c.in_ok-push_optional-2.ensures c.in_ok-push_optional-3.ensures
