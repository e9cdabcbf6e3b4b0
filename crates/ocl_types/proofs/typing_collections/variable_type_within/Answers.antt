use Rattle.ocl_types.proofs.IterationLaws.{variable_given}
use Rattle.ocl_types.proofs.typing_collections.variable_type_within.Goals as goal

pub returns : goal.returns
returns c = variable_given c.variable_type.result c.env.result.now c.args.scope.now c.args.tree.now c.args.of c.env.ensures c.variable_type.ensures
