use Rattle.ocl_types.proofs.UpperLaws.{fits_exactly}
use Rattle.ocl_types.proofs.laws.conformance_is_told.Goals as goal

pub returns : goal.returns
returns c = λ a b. fits_exactly c.args.metas.now c.len-count.ensures.well a b
