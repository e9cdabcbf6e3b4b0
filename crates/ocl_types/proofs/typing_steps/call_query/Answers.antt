use Rattle.std.proofs.Common.{arith}
use Rattle.std.proofs.lemmas.Grind.{common_steps}
use Rattle.ocl_types.proofs.typing_steps.call_query.Goals as goal

pub returns-in_err-counted : goal.returns-in_err-counted
returns-in_err-counted c = grind (arith, common_steps)

pub returns-in_err-each_fits : goal.returns-in_err-each_fits
returns-in_err-each_fits c = grind (arith, common_steps)

pub returns-in_err-ty : goal.returns-in_err-ty
returns-in_err-ty c = grind (arith, common_steps)

pub returns-in_err-args : goal.returns-in_err-args
returns-in_err-args c = grind (arith, common_steps)

pub returns : goal.returns
returns c = grind (arith, common_steps)
