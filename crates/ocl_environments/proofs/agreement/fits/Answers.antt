use Rattle.std.proofs.Common.{arith}
use Rattle.std.proofs.lemmas.Grind.{common_steps}
use Rattle.ocl_environments.proofs.agreement.fits.Goals as goal

pub returns-then-m-n-clause-test : goal.returns-then-m-n-clause-test
returns-then-m-n-clause-test c = grind (arith, common_steps)

pub returns-else-m-n-clause-test : goal.returns-else-m-n-clause-test
returns-else-m-n-clause-test c = grind (arith, common_steps)

pub returns-then-m-n-clause-conforms : goal.returns-then-m-n-clause-conforms
returns-then-m-n-clause-conforms c = grind (arith, common_steps)

pub returns-else-m-n-clause-conforms : goal.returns-else-m-n-clause-conforms
returns-else-m-n-clause-conforms c = grind (arith, common_steps)

pub returns-in-Some-None-clause-test : goal.returns-in-Some-None-clause-test
returns-in-Some-None-clause-test c = grind (arith, common_steps)

pub returns-in-None-default-clause-test : goal.returns-in-None-default-clause-test
returns-in-None-default-clause-test c = grind (arith, common_steps)
