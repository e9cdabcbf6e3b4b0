use Rattle.std.proofs.Common.{arith}
use Rattle.std.proofs.lemmas.Grind.{common_steps}
use Rattle.ocl_environments.proofs.agreement.class_fits.Goals as goal

pub returns-then-c-class_count-clause-test : goal.returns-then-c-class_count-clause-test
returns-then-c-class_count-clause-test c = grind (arith, common_steps)

pub returns-else-c-class_count-clause-test : goal.returns-else-c-class_count-clause-test
returns-else-c-class_count-clause-test c = grind (arith, common_steps)

pub returns-then-c-class_count-clause-conforms : goal.returns-then-c-class_count-clause-conforms
returns-then-c-class_count-clause-conforms c = grind (arith, common_steps)

pub returns-else-c-class_count-clause-conforms : goal.returns-else-c-class_count-clause-conforms
returns-else-c-class_count-clause-conforms c = grind (arith, common_steps)
