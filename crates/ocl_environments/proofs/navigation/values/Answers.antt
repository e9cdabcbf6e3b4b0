use Rattle.std.proofs.Common.{arith}
use Rattle.std.proofs.lemmas.Grind.{common_steps}
use Rattle.ocl_environments.proofs.navigation.values.Goals as goal

pub returns-then-prop : goal.returns-then-prop
returns-then-prop c = grind (arith, common_steps)
