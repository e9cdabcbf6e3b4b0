use Rattle.std.proofs.Common.{take, chars}
use Rattle.std.specs.Prelude.{All}
use Rattle.object_tables.specs.Identifiers.{HasIdentifier}
use Rattle.object_tables.proofs.identifiers.find_among.Given as goal

abbrev pub invariant-loop-o : goal.invariant-loop-o
invariant-loop-o l = All (λ o. ¬ HasIdentifier l.tables o (chars l.id)) (take l.o-index l.numbers)
