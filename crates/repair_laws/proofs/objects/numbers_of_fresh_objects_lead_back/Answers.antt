use Rattle.repair_laws.proofs.ObjectLaws.{leads_back}
use Rattle.repair_laws.proofs.objects.numbers_of_fresh_objects_lead_back.Goals as goal

pub returns : goal.returns
returns c = leads_back
