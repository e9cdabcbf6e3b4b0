use Rattle.candidate_laws.proofs.Keeping.{made_kept}
use Rattle.candidate_laws.proofs.kept.candidates_are_kept.Goals as goal

pub returns : goal.returns
returns c = made_kept
