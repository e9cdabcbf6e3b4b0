use Rattle.std.proofs.Common.{arith}
use Rattle.std.proofs.lemmas.Grind.{common_steps}
use Rattle.ocl_types.proofs.typing_literals.all_fit.Goals as goal

pub loop-part-init : goal.loop-part-init
loop-part-init c = grind (arith, common_steps)

pub returns-in_err-wrong_type : goal.returns-in_err-wrong_type
returns-in_err-wrong_type c = grind (arith, common_steps)

pub returns-then-not-fits : goal.returns-then-not-fits
returns-then-not-fits c = grind (arith, common_steps)

pub loop-part-preserved : goal.loop-part-preserved
loop-part-preserved c = grind (arith, common_steps)

pub returns-in_err-duplicate : goal.returns-in_err-duplicate
returns-in_err-duplicate c = grind (arith, common_steps)

pub returns : goal.returns
returns c = grind (arith, common_steps)
