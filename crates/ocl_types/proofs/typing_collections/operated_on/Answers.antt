use Rattle.std.proofs.Common.{arith}
use Rattle.std.proofs.lemmas.Grind.{common_steps}
use Rattle.ocl_types.proofs.typing_collections.operated_on.Goals as goal

pub returns : goal.returns
returns c = grind (arith, common_steps)

pub returns-2 : goal.returns-2
returns-2 c = grind (arith, common_steps)

pub returns-3 : goal.returns-3
returns-3 c = grind (arith, common_steps)

pub returns-4 : goal.returns-4
returns-4 c = grind (arith, common_steps)
