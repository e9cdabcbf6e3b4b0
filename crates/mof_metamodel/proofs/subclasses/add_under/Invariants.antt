use Rattle.mof_metamodel.specs.Tables.{class_numbers, AddsUnder}
use Rattle.mof_metamodel.proofs.subclasses.add_under.Given as goal

-- the class stands in the lists of the superclasses so far
abbrev pub invariant-loop-s : goal.invariant-loop-s
invariant-loop-s l = AddsUnder l.fn.lists l.lists (class_numbers l.supers) l.s-index l.c
