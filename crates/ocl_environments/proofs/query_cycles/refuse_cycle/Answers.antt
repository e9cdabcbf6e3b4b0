use Rattle.std.proofs.Common.{◌∙◌}
use Rattle.ocl_environments.proofs.QueryCallLemmas.{no_cycle}
use Rattle.ocl_environments.proofs.query_cycles.refuse_cycle.Goals as goal

pub returns-clause-none : goal.returns-clause-none
returns-clause-none c = no_cycle c.in_ok-u.field-0 c.as_slice.result.now _ c.in_ok-u.ensures c.in-None.is (c.as_slice.ensures ∙ c.in_ok-rows.ensures)
