use Rattle.std.proofs.Common.{arith}
use Rattle.std.proofs.lemmas.Grind.{common_steps}
use Rattle.ocl_types.proofs.typing_collections.given_types.Goals as goal

pub returns-in_err-duplicate-in-empty : goal.returns-in_err-duplicate-in-empty
returns-in_err-duplicate-in-empty c = grind (arith, common_steps)

pub returns-in_ok-duplicate-in-empty : goal.returns-in_ok-duplicate-in-empty
returns-in_ok-duplicate-in-empty c = grind (arith, common_steps)

pub returns-in-len1-up : goal.returns-in-len1-up
returns-in-len1-up c = grind (arith, common_steps)
