use Rattle.std.proofs.Common.{arith}
use Rattle.std.proofs.lemmas.Grind.{common_steps}
use Rattle.ocl_types.specs.Typing.{typed, part_of}
use Rattle.ocl_types.proofs.typing.type_expr.Goals as goal

pub returns : goal.returns
unfolding typed part_of
returns c = grind (arith, common_steps)

pub returns-in_err-part : goal.returns-in_err-part
unfolding typed part_of
returns-in_err-part c = grind (arith, common_steps)
