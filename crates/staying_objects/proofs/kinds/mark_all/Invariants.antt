use Rattle.std.proofs.Common.{take}
use Rattle.mof_metamodel.specs.Tables.{class_numbers}
use Rattle.staying_objects.specs.Kinds.{AreKinds}
use Rattle.staying_objects.proofs.kinds.mark_all.Given as goal

abbrev pub invariant-loop-class : goal.invariant-loop-class
invariant-loop-class l = AreKinds l.meta (class_numbers (take l.class-index l.classes)) l.marks
