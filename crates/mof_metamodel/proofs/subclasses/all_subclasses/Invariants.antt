use Rattle.mof_metamodel.specs.Tables.{AreSubclasses}
use Rattle.mof_metamodel.proofs.subclasses.all_subclasses.Given as goal

-- the classes so far stand in the lists of their superclasses
abbrev pub invariant-loop-c : goal.invariant-loop-c
invariant-loop-c l = AreSubclasses l.hierarchy l.c l.lists.items
