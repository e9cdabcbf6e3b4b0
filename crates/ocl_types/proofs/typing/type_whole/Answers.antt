use Rattle.ocl_types.proofs.QueryLemmas.{ok_given, fault_given}
use Rattle.ocl_types.proofs.TypingDecides.{part_told, part_fault}
use Rattle.ocl_types.proofs.TypedTrees.{tree_typed, type_within}
use Rattle.ocl_types.proofs.typing.type_whole.Goals as goal

pub returns-clause-typed : goal.returns-clause-typed
returns-clause-typed c = ok_given c.part_over.result _ _ (λ p is. part_told c.args.env.now c.in_order.ensures c.args.expr.now p is) c.part_over.ensures

pub returns-clause-tree : goal.returns-clause-tree
returns-clause-tree c =
    ok_given c.part_over.result _ _ (λ p is. tree_typed c.args.env.now c.in_order.ensures c.args.expr.now p (part_told c.args.env.now c.in_order.ensures c.args.expr.now p is)) c.part_over.ensures

pub returns-clause-within : goal.returns-clause-within
returns-clause-within c =
    ok_given c.part_over.result _ _ (λ p is. type_within c.args.env.now c.in_order.ensures c.args.expr.now p (part_told c.args.env.now c.in_order.ensures c.args.expr.now p is)) c.part_over.ensures

pub returns-clause-fault : goal.returns-clause-fault
returns-clause-fault c = fault_given c.part_over.result _ _ (λ f is. part_fault c.args.env.now c.in_order.ensures c.args.expr.now f is) c.part_over.ensures
