use Rattle.std.proofs.Common.{take}
use Rattle.mof_metamodel.specs.Tables.{Numbers}
use Rattle.mof_metamodel.proofs.numbering.class_names.Given as goal

-- the names so far number the items so far
abbrev pub invariant-loop-i : goal.invariant-loop-i
invariant-loop-i l = Numbers (λ x. x.name) (take l.i l.classes) l.names
