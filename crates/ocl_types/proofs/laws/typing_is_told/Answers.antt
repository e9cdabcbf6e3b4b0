use Rattle.ocl_types.proofs.TypingDecides.{tree_told, tree_only, fault_told, fault_known}
use Rattle.ocl_types.proofs.laws.typing_is_told.Goals as goal

pub returns-clause-told : goal.returns-clause-told
returns-clause-told c = λ e t is. tree_told c.args.env.now c.in_order.ensures e t is

pub returns-clause-only : goal.returns-clause-only
returns-clause-only c = λ e t has. tree_only c.args.env.now c.in_order.ensures e t has

pub returns-clause-fault : goal.returns-clause-fault
returns-clause-fault c = λ e f is. fault_told c.args.env.now c.in_order.ensures e f is

pub returns-clause-known : goal.returns-clause-known
returns-clause-known c = λ e f stands. fault_known c.args.env.now c.in_order.ensures e f stands
