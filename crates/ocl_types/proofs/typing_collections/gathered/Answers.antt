use Rattle.std.proofs.Common.{arith}
use Rattle.std.proofs.lemmas.Grind.{common_steps}
use Rattle.ocl_types.proofs.typing_collections.gathered.Goals as goal

pub returns-then-is_collection : goal.returns-then-is_collection
returns-then-is_collection c = grind (arith, common_steps)

pub returns-in_err-ty : goal.returns-in_err-ty
returns-in_err-ty c = grind (arith, common_steps)

pub returns : goal.returns
returns c = grind (arith, common_steps)
