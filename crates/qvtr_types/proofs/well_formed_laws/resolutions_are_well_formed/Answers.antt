use Rattle.qvtr_types.proofs.well_formed.Whole.{well_formed}
use Rattle.qvtr_types.proofs.well_formed_laws.resolutions_are_well_formed.Goals as goal

pub returns : goal.returns
returns c = well_formed
