use Rattle.std.proofs.Common.{arith}
use Rattle.std.proofs.lemmas.Grind.{common_steps}
use Rattle.mof_metamodel.proofs.resolved.unknown_prop.Goals as goal

pub loop-prop-init : goal.loop-prop-init
loop-prop-init c = grind (arith, common_steps)

pub returns-in_err-qualified : goal.returns-in_err-qualified
returns-in_err-qualified c = grind (arith, common_steps)

pub returns-then-not-is_known_prop : goal.returns-then-not-is_known_prop
returns-then-not-is_known_prop c = grind (arith, common_steps)

pub loop-prop-preserved : goal.loop-prop-preserved
loop-prop-preserved c = grind (arith, common_steps)

pub returns : goal.returns
returns c = grind (arith, common_steps)
