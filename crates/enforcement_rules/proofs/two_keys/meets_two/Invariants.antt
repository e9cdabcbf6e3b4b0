use Rattle.std.proofs.Common.{ℕ, List}
use Rattle.mof_metamodel.specs.declared.desc.MetaDesc.{MetaDesc}
use Rattle.enforcement_rules.specs.TwoKeys.{AreBelow, IsMarkable, IsMarking, weight}
use Rattle.enforcement_rules.proofs.two_keys.meets_two.Given as goal

abbrev pub invariant-loop-next : goal.invariant-loop-next
invariant-loop-next l = record {
  markable : IsMarkable l.below l.marks l.pending;
  kept : (desc : MetaDesc) (keyed : List ℕ) → AreBelow desc l.below → IsMarking desc keyed l.fn.marks l.fn.pending → IsMarking desc keyed l.marks l.pending;
}

abbrev pub decreases-loop-next : goal.decreases-loop-next
decreases-loop-next l = weight l.below l.marks l.pending
