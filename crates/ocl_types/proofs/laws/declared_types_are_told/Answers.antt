use Rattle.ocl_types.proofs.WrittenLaws.{declared_is, is_declared}
use Rattle.ocl_types.proofs.laws.declared_types_are_told.Goals as goal

pub returns : goal.returns
returns c = λ tree ty. (declared_is c.args.env.now tree ty, is_declared c.args.env.now tree ty)
