use Rattle.ocl_types.proofs.CycleLaws.{calls_listed, calls_stand, acyclic_where, none_on_cycle}
use Rattle.ocl_types.proofs.laws.calls_are_told.Goals as goal

pub returns-clause-rows : goal.returns-clause-rows
returns-clause-rows c = λ e q. (calls_stand e q, calls_listed e q)

pub returns-clause-cycles : goal.returns-clause-cycles
returns-clause-cycles c = λ queries. (acyclic_where queries, none_on_cycle queries)
