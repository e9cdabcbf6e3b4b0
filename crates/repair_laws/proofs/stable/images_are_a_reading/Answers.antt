use Rattle.repair_laws.proofs.ImageReadings.{images_read}
use Rattle.repair_laws.proofs.stable.images_are_a_reading.Goals as goal

pub returns : goal.returns
returns c = images_read
