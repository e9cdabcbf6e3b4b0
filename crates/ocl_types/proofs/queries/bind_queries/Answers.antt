use Rattle.std.proofs.Common.{arith}
use Rattle.std.proofs.lemmas.Grind.{common_steps}
use Rattle.ocl_types.specs.QueryTyping.{queries_bound}
use Rattle.ocl_types.proofs.queries.bind_queries.Goals as goal

pub returns-clause-given : goal.returns-clause-given
unfolding queries_bound
returns-clause-given c = grind (arith, common_steps)
