use Rattle.std.proofs.Common.{rules}
use Rattle.mof_metamodel.proofs.checks.is_within_limits.Goals as goal

pub returns-else-has_few_props : goal.returns-else-has_few_props
returns-else-has_few_props c = search rules
