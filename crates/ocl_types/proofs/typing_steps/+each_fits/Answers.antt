use Rattle.std.proofs.Common.{arith}
use Rattle.std.proofs.lemmas.Grind.{common_steps}
use Rattle.ocl_types.proofs.typing_steps.+each_fits.Goals as goal

pub returns-then-not-fits : goal.returns-then-not-fits
returns-then-not-fits t c = grind (arith, common_steps)

pub returns-else-not-fits : goal.returns-else-not-fits
returns-else-not-fits t c = grind (arith, common_steps)

pub returns-in-empty : goal.returns-in-empty
returns-in-empty t c = grind (arith, common_steps)

pub returns-in-empty-args : goal.returns-in-empty-args
returns-in-empty-args t c = grind (arith, common_steps)
