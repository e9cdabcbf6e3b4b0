use Rattle.std.proofs.Common.{length}
use Rattle.enforcement_rules.proofs.DerivationSteps.{pop_below, pop_within, pop_underway, pop_less}
use Rattle.enforcement_rules.proofs.derivations.run.Goals as goal

pub step-requires-clause-bound : goal.step-requires-clause-bound
step-requires-clause-bound c =
    pop_below (length c.args.bound.now) c.loop-rule.bound c.loop-rule.waiting c.loop-rule.pending c.pop.new.self c.in-Some.rule c.in-Some.ensures c.loop-rule.invariant.within

pub loop-rule-smaller : goal.loop-rule-smaller
loop-rule-smaller c =
    pop_less (length c.args.bound.now) c.loop-rule.bound c.loop-rule.waiting c.loop-rule.pending c.pop.new.self c.in-Some.rule c.in-Some.ensures c.loop-rule.invariant.within
    (record { bound = c.step.new.bound; waiting = c.step.new.waiting; pending = c.step.new.pending }) c.in_ok-step.ensures

pub loop-rule-preserved : goal.loop-rule-preserved
loop-rule-preserved c = record {
  within = pop_within (length c.args.bound.now) c.loop-rule.bound c.loop-rule.waiting c.loop-rule.pending c.pop.new.self c.in-Some.rule c.in-Some.ensures c.loop-rule.invariant.within
      (record { bound = c.step.new.bound; waiting = c.step.new.waiting; pending = c.step.new.pending }) c.in_ok-step.ensures;
  kept = λ rules u. pop_underway (length c.args.bound.now) c.loop-rule.bound c.loop-rule.waiting c.loop-rule.pending c.pop.new.self c.in-Some.rule c.in-Some.ensures c.loop-rule.invariant.within
      (record { bound = c.step.new.bound; waiting = c.step.new.waiting; pending = c.step.new.pending }) c.in_ok-step.ensures rules (c.loop-rule.invariant.kept rules u);
}
