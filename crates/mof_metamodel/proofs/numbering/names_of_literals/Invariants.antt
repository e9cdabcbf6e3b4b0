use Rattle.std.proofs.Common.{take}
use Rattle.mof_metamodel.specs.Tables.{Numbers}
use Rattle.mof_metamodel.proofs.numbering.names_of_literals.Given as goal

-- the names so far number the literals so far
abbrev pub invariant-loop-i : goal.invariant-loop-i
invariant-loop-i l = Numbers (λ x. x) (take l.i l.literals) l.names
