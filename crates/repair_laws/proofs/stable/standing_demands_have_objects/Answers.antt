use Rattle.repair_laws.proofs.TermListLaws.{standing_terms}
use Rattle.repair_laws.proofs.stable.standing_demands_have_objects.Goals as goal

pub returns : goal.returns
returns c = standing_terms
