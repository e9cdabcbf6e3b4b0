use Rattle.std.proofs.Common.{rules}
use Rattle.mof_metamodel.proofs.checks.has_bounds.Goals as goal

pub returns-then-lower-upper : goal.returns-then-lower-upper
returns-then-lower-upper c = search rules
