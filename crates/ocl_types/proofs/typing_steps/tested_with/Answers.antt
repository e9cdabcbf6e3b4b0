use Rattle.std.proofs.Common.{arith}
use Rattle.std.proofs.lemmas.Grind.{common_steps}
use Rattle.ocl_types.proofs.typing_steps.tested_with.Goals as goal

pub returns-in_err-fault : goal.returns-in_err-fault
returns-in_err-fault c = grind (arith, common_steps)

pub returns-then-not-is_of_meta : goal.returns-then-not-is_of_meta
returns-then-not-is_of_meta c = grind (arith, common_steps)

pub returns-in_err-called_with : goal.returns-in_err-called_with
returns-in_err-called_with c = grind (arith, common_steps)

pub returns : goal.returns
returns c = grind (arith, common_steps)
