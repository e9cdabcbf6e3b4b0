use Rattle.ocl_environments.proofs.TypeLaws.{same_is_one}
use Rattle.ocl_types.proofs.laws.types_are_told_apart.Goals as goal

pub returns : goal.returns
returns c = same_is_one
