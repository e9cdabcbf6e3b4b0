use Rattle.std.proofs.Common.{◌≡◌, ◌++◌, take}
use Rattle.mof_metamodel.specs.Tables.{class_numbers}
use Rattle.staying_objects.specs.Classes.{classes_among}
use Rattle.staying_objects.proofs.classes.put_classes.Given as goal

abbrev pub invariant-loop-variable : goal.invariant-loop-variable
invariant-loop-variable l = class_numbers l.out ≡ class_numbers l.fn.out ++ classes_among l.rel l.marks (take l.variable-index l.variables)
