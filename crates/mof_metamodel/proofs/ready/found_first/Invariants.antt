use Rattle.std.proofs.Common.{length, ◌-◌}
use Rattle.mof_metamodel.specs.Tables.{class_numbers, HaveLines}
use Rattle.mof_metamodel.proofs.ready.found_first.Given as goal

-- the superclasses so far have orders
abbrev pub invariant-loop-next : goal.invariant-loop-next
invariant-loop-next l = HaveLines l.orders (class_numbers l.supers) l.next

abbrev pub decreases-loop-next : goal.decreases-loop-next
decreases-loop-next l = length l.supers - l.next
