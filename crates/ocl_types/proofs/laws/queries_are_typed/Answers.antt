use Rattle.ocl_types.proofs.QueryTrees.{queries_are_typed}
use Rattle.ocl_types.proofs.laws.queries_are_typed.Goals as goal

pub returns : goal.returns
returns c = queries_are_typed c.args.env.now c.in_order.ensures
