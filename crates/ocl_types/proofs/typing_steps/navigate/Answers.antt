use Rattle.std.proofs.Common.{arith}
use Rattle.std.proofs.lemmas.Grind.{common_steps}
use Rattle.ocl_types.proofs.typing_steps.navigate.Goals as goal

pub returns-in_err-reached-in-Some : goal.returns-in_err-reached-in-Some
returns-in_err-reached-in-Some c = grind (arith, common_steps)

pub returns-in_err-and_called-in-Some : goal.returns-in_err-and_called-in-Some
returns-in_err-and_called-in-Some c = grind (arith, common_steps)

pub returns-in_err-unknown_name-in-None : goal.returns-in_err-unknown_name-in-None
returns-in_err-unknown_name-in-None c = grind (arith, common_steps)

pub returns-in_ok-and_called-in-Some : goal.returns-in_ok-and_called-in-Some
returns-in_ok-and_called-in-Some c = grind (arith, common_steps)

pub returns-in_ok-unknown_name-in-None : goal.returns-in_ok-unknown_name-in-None
returns-in_ok-unknown_name-in-None c = grind (arith, common_steps)
