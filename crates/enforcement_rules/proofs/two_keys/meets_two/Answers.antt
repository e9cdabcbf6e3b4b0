use Rattle.std.proofs.Common.{refl, subst}
use Rattle.enforcement_rules.specs.TwoKeys.{IsMarking}
use Rattle.enforcement_rules.proofs.TwoKeyLaws.{popped_within, step_markable, step_falls, step_marking, step_meets, not_met}
use Rattle.enforcement_rules.proofs.two_keys.meets_two.Goals as goal

pub mark-requires-clause-class : goal.mark-requires-clause-class
mark-requires-clause-class c = popped_within c.args.below.now c.loop-next.marks c.loop-next.pending c.pop.new.self c.in-Some.next c.in-Some.ensures c.loop-next.invariant.markable

pub mark-requires-clause-below : goal.mark-requires-clause-below
mark-requires-clause-below c = c.loop-next.invariant.markable.long

pub loop-next-smaller : goal.loop-next-smaller
loop-next-smaller c =
    step_falls c.args.below.now c.loop-next.marks c.loop-next.pending c.pop.new.self c.in-Some.next c.in-Some.ensures c.loop-next.invariant.markable c.mark.new.marks c.mark.new.pending c.in_ok-other.ensures.marks
    c.in_ok-other.ensures.pending

pub loop-next-preserved : goal.loop-next-preserved
loop-next-preserved c = record {
  markable = step_markable c.args.below.now c.loop-next.marks c.loop-next.pending c.pop.new.self c.in-Some.next c.in-Some.ensures c.loop-next.invariant.markable c.mark.new.marks c.mark.new.pending
      c.in_ok-other.ensures.marks c.in_ok-other.ensures.pending;
  kept = λ desc keyed graph mk. step_marking c.args.below.now c.loop-next.marks c.loop-next.pending c.pop.new.self c.in-Some.next c.in-Some.ensures c.loop-next.invariant.markable desc keyed graph
      (c.loop-next.invariant.kept desc keyed graph mk) c.mark.new.marks c.mark.new.pending c.in_ok-other.other c.in_ok-other.ensures.marks c.in_ok-other.ensures.pending c.in_ok-other.ensures.other c.if-other.false;
}

pub returns-then-other : goal.returns-then-other
returns-then-other c = λ desc keyed graph mk. (
  λ t.
      step_meets c.args.below.now c.loop-next.marks c.loop-next.pending c.pop.new.self c.in-Some.next c.in-Some.ensures c.loop-next.invariant.markable desc keyed graph
      (c.loop-next.invariant.kept desc keyed graph mk) c.in_ok-other.other c.in_ok-other.ensures.other c.if-other.true,
  λ t. refl,
)

pub returns : goal.returns
returns c = λ desc keyed graph mk.
    not_met desc keyed c.loop-next.marks (subst (IsMarking desc keyed c.loop-next.marks) c.in_default.ensures.0 (c.loop-next.invariant.kept desc keyed graph mk))
