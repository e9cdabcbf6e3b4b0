use Rattle.std.proofs.Common.{arith}
use Rattle.std.proofs.lemmas.Grind.{common_steps}
use Rattle.ocl_parser.proofs.parsing.go_on.Goals as goal

pub returns-then-deep : goal.returns-then-deep
returns-then-deep c = grind (arith, common_steps)

pub returns-else-deep : goal.returns-else-deep
returns-else-deep c = grind (arith, common_steps)
