use Rattle.std.proofs.Common.{◌≡◌, length, drop}
use Rattle.mof_metamodel.specs.Metamodels.{united}
use Rattle.mof_metamodel.specs.Tables.{AreMarks, class_numbers}
use Rattle.mof_metamodel.proofs.reached.meet.Given as goal

-- what is left gives the whole, and what is there is marked
abbrev pub invariant-loop-c : goal.invariant-loop-c
invariant-loop-c l = (united l.met (class_numbers (drop l.c-index l.classes)) ≡ united l.fn.met (class_numbers l.classes)) × (length l.marks ≡ length l.fn.marks) × AreMarks l.marks l.met
