use Rattle.std.proofs.Common.{below_more, sym, ◌∙◌, true≢false, arith}
use Rattle.object_tables.specs.Containment.{IsOnCycle}
use Rattle.object_tables.proofs.ContainmentLemmas.{cycle-live, live-below}
use Rattle.object_tables.proofs.model.Model.least_on_cycle.Goals as goal
use Rattle.object_tables.proofs.model.Model.least_on_cycle.Goals.{else-is_live-via-then-is_live+else-is_on_cycle, else-is_live-via-else-is_live}

pub returns-then-is_on_cycle-clause-least : goal.returns-then-is_on_cycle-clause-least
returns-then-is_on_cycle-clause-least c = record { cycle = c.is_on_cycle.ensures.0 c.if-is_on_cycle.true; least = c.loop-o.invariant }

pub loop-o-preserved : goal.loop-o-preserved
loop-o-preserved c =
    below_more (λ a. IsOnCycle c.args.self.now a → ⊥) c.loop-o.o c.loop-o.invariant
    (λ cycle. elim c.else-is_live.branch [
      | else-is_live-via-then-is_live+else-is_on_cycle w ↦ true≢false (sym (w.is_on_cycle.ensures.1 cycle) ∙ w.if-is_on_cycle.false)
      | else-is_live-via-else-is_live w ↦ true≢false (sym (c.is_live.ensures.1 (cycle-live c.args.self.now c.loop-o.o cycle)) ∙ w.if-is_live.false)
    ])

pub returns-clause-none : goal.returns-clause-none
returns-clause-none c = λ o cycle. c.loop-o.invariant o (let l = live-below c.args.self.now o (cycle-live c.args.self.now o cycle) in omega arith) cycle
