use Rattle.ocl_types.proofs.TypedTrees.{tree_typed, type_within}
use Rattle.ocl_types.proofs.laws.trees_are_typed.Goals as goal

pub returns-clause-typed : goal.returns-clause-typed
returns-clause-typed c = λ e p. tree_typed c.args.env.now c.in_order.ensures e p

pub returns-clause-within : goal.returns-clause-within
returns-clause-within c = λ e p has. type_within c.args.env.now c.in_order.ensures e p has
