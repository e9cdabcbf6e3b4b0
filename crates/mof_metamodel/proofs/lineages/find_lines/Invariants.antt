use Rattle.std.proofs.Common.{◌-◌}
use Rattle.mof_metamodel.specs.Metamodels.{class_count}
use Rattle.mof_metamodel.specs.Tables.{IsQueue, IsFinding}
use Rattle.mof_metamodel.proofs.lineages.find_lines.Given as goal

-- the orders of the first classes that are ready were found
abbrev pub invariant-loop-next : goal.invariant-loop-next
invariant-loop-next l = IsQueue l.hierarchy l.orders l.known l.ready l.marks × IsFinding l.hierarchy l.orders l.next l.ready

-- no more classes are ready than there are
abbrev pub decreases-loop-next : goal.decreases-loop-next
decreases-loop-next l = class_count l.hierarchy - l.next
