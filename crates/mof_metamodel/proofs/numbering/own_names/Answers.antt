use Rattle.std.proofs.Common.{arith}
use Rattle.std.proofs.lemmas.Grind.{common_steps}
use Rattle.mof_metamodel.proofs.numbering.own_names.Goals as goal

pub prop_names-requires : goal.prop_names-requires
prop_names-requires c = grind (arith, common_steps)
