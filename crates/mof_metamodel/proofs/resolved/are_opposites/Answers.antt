use Rattle.std.proofs.Common.{rules}
use Rattle.mof_metamodel.proofs.resolved.are_opposites.Goals as goal

pub returns-then-not-prop : goal.returns-then-not-prop
returns-then-not-prop c = search rules

pub returns-else-not-prop : goal.returns-else-not-prop
returns-else-not-prop c = search rules
