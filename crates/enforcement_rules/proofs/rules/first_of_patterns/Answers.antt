use Rattle.std.proofs.Common.{refl}
use Rattle.enforcement_rules.specs.Rules.{Breaks}
use Rattle.enforcement_rules.proofs.LeastLaws.{kept_first, kept_next}
use Rattle.enforcement_rules.proofs.rules.first_of_patterns.Goals as goal

pub returns-then-unmarked : goal.returns-then-unmarked
returns-then-unmarked c = (
  Breaks.e1 refl (c.is_unmarked_relation-unmarked.ensures.0 c.if-unmarked.true),
  kept_first c.args.task.now.metas.now c.args.task.now.program.now c.args.task.now.rel.now,
)

pub returns-then-touches : goal.returns-then-touches
returns-then-touches c = (
  Breaks.e2 refl (c.in_ok-touches.ensures.0 c.if-touches.true),
  kept_next c.args.task.now.metas.now c.args.task.now.program.now c.args.task.now.rel.now 1 2 refl (c.is_unmarked_relation-unmarked.result) (c.is_unmarked_relation-unmarked.ensures) c.if-unmarked.false
      (kept_first c.args.task.now.metas.now c.args.task.now.program.now c.args.task.now.rel.now),
)

pub returns-then-unsettled : goal.returns-then-unsettled
returns-then-unsettled c = (
  Breaks.e3 refl (c.in_ok-unsettled.ensures.0 c.if-unsettled.true),
  kept_next c.args.task.now.metas.now c.args.task.now.program.now c.args.task.now.rel.now 2 3 refl (c.in_ok-touches.touches) (c.in_ok-touches.ensures) c.if-touches.false
      (kept_next c.args.task.now.metas.now c.args.task.now.program.now c.args.task.now.rel.now 1 2 refl (c.is_unmarked_relation-unmarked.result) (c.is_unmarked_relation-unmarked.ensures) c.if-unmarked.false
      (kept_first c.args.task.now.metas.now c.args.task.now.program.now c.args.task.now.rel.now)),
)

pub returns-then-unmade : goal.returns-then-unmade
returns-then-unmade c = (
  Breaks.e4 refl (c.in_ok-unmade.ensures.0 c.if-unmade.true),
  kept_next c.args.task.now.metas.now c.args.task.now.program.now c.args.task.now.rel.now 3 4 refl (c.in_ok-unsettled.unsettled) (c.in_ok-unsettled.ensures) c.if-unsettled.false
      (kept_next c.args.task.now.metas.now c.args.task.now.program.now c.args.task.now.rel.now 2 3 refl (c.in_ok-touches.touches) (c.in_ok-touches.ensures) c.if-touches.false
      (kept_next c.args.task.now.metas.now c.args.task.now.program.now c.args.task.now.rel.now 1 2 refl (c.is_unmarked_relation-unmarked.result) (c.is_unmarked_relation-unmarked.ensures) c.if-unmarked.false
      (kept_first c.args.task.now.metas.now c.args.task.now.program.now c.args.task.now.rel.now))),
)

pub returns : goal.returns
returns c =
    kept_next c.args.task.now.metas.now c.args.task.now.program.now c.args.task.now.rel.now 4 5 refl (c.in_ok-unmade.unmade) (c.in_ok-unmade.ensures) c.if-unmade.false
    (kept_next c.args.task.now.metas.now c.args.task.now.program.now c.args.task.now.rel.now 3 4 refl (c.in_ok-unsettled.unsettled) (c.in_ok-unsettled.ensures) c.if-unsettled.false
    (kept_next c.args.task.now.metas.now c.args.task.now.program.now c.args.task.now.rel.now 2 3 refl (c.in_ok-touches.touches) (c.in_ok-touches.ensures) c.if-touches.false
    (kept_next c.args.task.now.metas.now c.args.task.now.program.now c.args.task.now.rel.now 1 2 refl (c.is_unmarked_relation-unmarked.result) (c.is_unmarked_relation-unmarked.ensures) c.if-unmarked.false
    (kept_first c.args.task.now.metas.now c.args.task.now.program.now c.args.task.now.rel.now))))
