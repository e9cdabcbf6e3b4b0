use Rattle.std.proofs.Common.{arith}
use Rattle.std.proofs.lemmas.Grind.{common_steps}
use Rattle.ocl_environments.proofs.classifier_index.add_classes.Goals as goal

pub loop-c-preserved : goal.loop-c-preserved
loop-c-preserved c = grind (arith, common_steps)

pub returns-clause-added : goal.returns-clause-added
returns-clause-added c = grind (arith, common_steps)

pub returns-in_err-add_class-clause-added : goal.returns-in_err-add_class-clause-added
returns-in_err-add_class-clause-added c = grind (arith, common_steps)
