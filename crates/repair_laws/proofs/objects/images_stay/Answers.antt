use Rattle.repair_laws.proofs.DemandedLaws.{image_stays}
use Rattle.repair_laws.proofs.objects.images_stay.Goals as goal

pub returns : goal.returns
returns c = image_stays
