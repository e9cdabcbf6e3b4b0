use Rattle.std.proofs.Common.{sym, ◌∙◌}
use Rattle.ocl_environments.proofs.lets.free_name.Goals as goal

pub returns-clause-unbound : goal.returns-clause-unbound
returns-clause-unbound c = sym c.is_bound.ensures ∙ c.if-is_bound.false
