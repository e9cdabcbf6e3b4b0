use Rattle.std.proofs.Common.{arith}
use Rattle.std.proofs.lemmas.Grind.{common_steps}
use Rattle.mof_metamodel.proofs.numbering.literal_names.Goals as goal

pub names_of_literals-requires : goal.names_of_literals-requires
names_of_literals-requires c = grind (arith, common_steps)
