use Rattle.repair_laws.proofs.CandidateLaws.{stays_with_class, stays_with_id, is_gone}
use Rattle.repair_laws.proofs.candidates.objects_stay_or_are_gone.Goals as goal

pub returns-clause-class : goal.returns-clause-class
returns-clause-class c = stays_with_class

pub returns-clause-identifier : goal.returns-clause-identifier
returns-clause-identifier c = stays_with_id

pub returns-clause-gone : goal.returns-clause-gone
returns-clause-gone c = is_gone
