use Rattle.std.proofs.Common.{arith}
use Rattle.std.proofs.lemmas.Grind.{common_steps}
use Rattle.mof_metamodel.proofs.resolved.first_unknown.Goals as goal

pub loop-class-init : goal.loop-class-init
loop-class-init c = grind (arith, common_steps)

pub returns-in_err-found : goal.returns-in_err-found
returns-in_err-found c = grind (arith, common_steps)

pub returns-then-is_some : goal.returns-then-is_some
returns-then-is_some c = grind (arith, common_steps)

pub loop-class-preserved : goal.loop-class-preserved
loop-class-preserved c = grind (arith, common_steps)

pub returns : goal.returns
returns c = grind (arith, common_steps)
