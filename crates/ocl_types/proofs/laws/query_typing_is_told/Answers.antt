use Rattle.ocl_types.proofs.QueriesDecide.{queries_told, queries_only, queries_fault, queries_known}
use Rattle.ocl_types.proofs.laws.query_typing_is_told.Goals as goal

pub returns-clause-told : goal.returns-clause-told
returns-clause-told c = λ qs bound all is. queries_told c.args.env.now c.in_order.ensures qs bound all is

pub returns-clause-only : goal.returns-clause-only
returns-clause-only c = λ qs bound all are. queries_only c.args.env.now c.in_order.ensures qs bound all are

pub returns-clause-fault : goal.returns-clause-fault
returns-clause-fault c = λ qs f is. queries_fault c.args.env.now c.in_order.ensures qs f is

pub returns-clause-known : goal.returns-clause-known
returns-clause-known c = λ qs f stands. queries_known c.args.env.now c.in_order.ensures qs f stands
