use Rattle.std.proofs.Common.{arith}
use Rattle.std.proofs.lemmas.Grind.{common_steps}
use Rattle.ocl_types.proofs.typing_steps.class_property.Goals as goal

pub returns-else-i-metas : goal.returns-else-i-metas
returns-else-i-metas c = grind (arith, common_steps)
