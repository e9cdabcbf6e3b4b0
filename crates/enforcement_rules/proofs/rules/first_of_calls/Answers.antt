use Rattle.std.proofs.Common.{refl}
use Rattle.enforcement_rules.specs.Rules.{Breaks}
use Rattle.enforcement_rules.proofs.LeastLaws.{kept_next}
use Rattle.enforcement_rules.proofs.rules.first_of_calls.Goals as goal

pub returns-then-unmatched : goal.returns-then-unmatched
returns-then-unmatched c = (
  Breaks.e9 refl (c.in_ok-unmatched.ensures.0 c.if-unmatched.true),
  c.requires.kept,
)

pub returns-then-wrong : goal.returns-then-wrong
returns-then-wrong c = (
  Breaks.e10 refl (c.in_ok-wrong.ensures.0 c.if-wrong.true),
  kept_next c.args.task.now.metas.now c.args.task.now.program.now c.args.task.now.rel.now 9 10 refl (c.in_ok-unmatched.unmatched) (c.in_ok-unmatched.ensures) c.if-unmatched.false
      (c.requires.kept),
)

pub returns-then-undetermined : goal.returns-then-undetermined
returns-then-undetermined c = (
  Breaks.e11 refl (c.has_undetermined-undetermined.ensures.0 c.if-undetermined.true),
  kept_next c.args.task.now.metas.now c.args.task.now.program.now c.args.task.now.rel.now 10 11 refl (c.in_ok-wrong.wrong) (c.in_ok-wrong.ensures) c.if-wrong.false
      (kept_next c.args.task.now.metas.now c.args.task.now.program.now c.args.task.now.rel.now 9 10 refl (c.in_ok-unmatched.unmatched) (c.in_ok-unmatched.ensures) c.if-unmatched.false
      (c.requires.kept)),
)

pub returns : goal.returns
returns c =
    kept_next c.args.task.now.metas.now c.args.task.now.program.now c.args.task.now.rel.now 11 12 refl (c.has_undetermined-undetermined.result) (c.has_undetermined-undetermined.ensures) c.if-undetermined.false
    (kept_next c.args.task.now.metas.now c.args.task.now.program.now c.args.task.now.rel.now 10 11 refl (c.in_ok-wrong.wrong) (c.in_ok-wrong.ensures) c.if-wrong.false
    (kept_next c.args.task.now.metas.now c.args.task.now.program.now c.args.task.now.rel.now 9 10 refl (c.in_ok-unmatched.unmatched) (c.in_ok-unmatched.ensures) c.if-unmatched.false
    (c.requires.kept)))
