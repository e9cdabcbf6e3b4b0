use Rattle.enforcement_laws.proofs.SameNumbers.{same_is_equal}
use Rattle.enforcement_laws.proofs.reports.same_models_are_unchanged.Goals as goal

pub returns : goal.returns
returns c = same_is_equal
