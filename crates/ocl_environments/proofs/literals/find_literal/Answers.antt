use Rattle.std.proofs.Common.{arith}
use Rattle.std.proofs.lemmas.Grind.{common_steps}
use Rattle.ocl_environments.specs.ClassifierIndexes.{path_literal_found}
use Rattle.ocl_environments.proofs.literals.find_literal.Goals as goal

pub returns-in-len2 : goal.returns-in-len2
unfolding path_literal_found
returns-in-len2 c = grind (arith, common_steps)

pub returns-in-len3 : goal.returns-in-len3
unfolding path_literal_found
returns-in-len3 c = grind (arith, common_steps)
