use Rattle.std.proofs.Common.{◌≡◌, length, drop}
use Rattle.mof_metamodel.specs.Metamodels.{united}
use Rattle.mof_metamodel.specs.Tables.{AreMarks}
use Rattle.mof_metamodel.proofs.lineages.join.Given as goal

-- what is left gives the whole, and what is there is marked
abbrev pub invariant-loop-c : goal.invariant-loop-c
invariant-loop-c l = (united l.joint (drop l.c-index l.order) ≡ united l.fn.joint l.order) × (length l.marks ≡ length l.fn.marks) × AreMarks l.marks l.joint
