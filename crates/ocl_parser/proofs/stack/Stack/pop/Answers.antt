use Rattle.std.proofs.Common.{arith}
use Rattle.std.proofs.lemmas.Grind.{common_steps}
use Rattle.ocl_parser.proofs.stack.Stack.pop.Goals as goal

pub returns-in_err-frame : goal.returns-in_err-frame
returns-in_err-frame c = grind (arith, common_steps)

pub returns : goal.returns
returns c = grind (arith, common_steps)
