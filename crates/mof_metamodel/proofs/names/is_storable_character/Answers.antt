use Rattle.std.proofs.Common.{rules}
use Rattle.mof_metamodel.proofs.names.is_storable_character.Goals as goal

pub returns-then-matches : goal.returns-then-matches
returns-then-matches c = search rules
