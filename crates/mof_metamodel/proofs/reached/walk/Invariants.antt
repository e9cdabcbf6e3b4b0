use Rattle.std.proofs.Common.{◌≡◌, length, ◌-◌}
use Rattle.mof_metamodel.specs.Metamodels.{class_count}
use Rattle.mof_metamodel.specs.Tables.{AreMarks, IsWalk, class_numbers}
use Rattle.mof_metamodel.proofs.reached.walk.Given as goal

-- the superclasses of the classes so far were met
abbrev pub invariant-loop-next : goal.invariant-loop-next
invariant-loop-next l = IsWalk l.hierarchy (class_numbers l.starts) l.next l.met × AreMarks l.marks l.met × (length l.marks ≡ class_count l.hierarchy)

-- no more classes are met than there are
abbrev pub decreases-loop-next : goal.decreases-loop-next
decreases-loop-next l = class_count l.hierarchy - l.next
