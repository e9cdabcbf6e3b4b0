use Rattle.mof_metamodel.specs.Tables.{AreHeirs}
use Rattle.mof_metamodel.proofs.heirs.all_heirs.Given as goal

-- the classes so far stand in the lists of those that they inherit from
abbrev pub invariant-loop-c : goal.invariant-loop-c
invariant-loop-c l = AreHeirs l.named l.c l.heirs.items
