use Rattle.std.proofs.Common.{List, length}
use Rattle.enforcement_rules.specs.Derivations.{NumberRule, IsWithin, IsUnderway, weight}
use Rattle.enforcement_rules.proofs.derivations.run.Given as goal

abbrev pub invariant-loop-rule : goal.invariant-loop-rule
invariant-loop-rule l = record {
  within : IsWithin (length l.fn.bound) (record { bound = l.bound; waiting = l.waiting; pending = l.pending });
  kept : (rules : List NumberRule) → IsUnderway rules (record { bound = l.fn.bound; waiting = l.fn.waiting; pending = l.fn.pending }) → IsUnderway rules (record { bound = l.bound; waiting = l.waiting; pending = l.pending });
}

abbrev pub decreases-loop-rule : goal.decreases-loop-rule
decreases-loop-rule l = weight (record { bound = l.bound; waiting = l.waiting; pending = l.pending })
