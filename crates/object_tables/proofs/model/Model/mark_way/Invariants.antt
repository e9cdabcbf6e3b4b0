use Rattle.std.proofs.Common.{◌+◌, ◌-◌}
use Rattle.std.specs.Prelude.{sum_by}
use Rattle.object_tables.proofs.ClimbLemmas.{IsWay}
use Rattle.object_tables.proofs.model.Model.mark_way.Given as goal

abbrev pub invariant-loop-container : goal.invariant-loop-container
invariant-loop-container l = IsWay l.self l.fn.marks l.marks l.fn.o.0 l.at.0

-- the marks that are not used yet
abbrev pub decreases-loop-container : goal.decreases-loop-container
decreases-loop-container l = sum_by (λ x. (l.fn.o.0 + 1) - x) l.marks
