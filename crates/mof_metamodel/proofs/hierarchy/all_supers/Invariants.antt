use Rattle.std.proofs.Common.{◌≡◌, map}
use Rattle.mof_metamodel.specs.Metamodels.{supers_of}
use Rattle.mof_metamodel.specs.Tables.{class_numbers, table}
use Rattle.mof_metamodel.proofs.hierarchy.all_supers.Given as goal

-- a row for each class so far
abbrev pub invariant-loop-class : goal.invariant-loop-class
invariant-loop-class l = map class_numbers l.supers.items ≡ table (supers_of l.named) l.class-index
