use Rattle.repair_laws.proofs.DemandedLaws.{has_object}
use Rattle.repair_laws.proofs.objects.demanded_terms_have_objects.Goals as goal

pub returns : goal.returns
returns c = has_object
