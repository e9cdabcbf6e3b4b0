use Rattle.ocl_types.proofs.DeclaredLemmas.{variable_typed}
use Rattle.ocl_types.proofs.queries.variable_type.Goals as goal

pub returns-clause-typed : goal.returns-clause-typed
returns-clause-typed c = variable_typed c.declared_type.result c.args.env.now c.args.tree.now c.declared_type.ensures
