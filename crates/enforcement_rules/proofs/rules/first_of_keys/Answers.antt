use Rattle.std.proofs.Common.{refl}
use Rattle.enforcement_rules.specs.Rules.{Breaks}
use Rattle.enforcement_rules.proofs.LeastLaws.{kept_next}
use Rattle.enforcement_rules.proofs.rules.first_of_keys.Goals as goal

pub returns-then-unkeyed : goal.returns-then-unkeyed
returns-then-unkeyed c = (
  Breaks.e5 refl (c.in_ok-unkeyed.ensures.0 c.if-unkeyed.true),
  c.requires.kept,
)

pub returns-then-many : goal.returns-then-many
returns-then-many c = (
  Breaks.e6 refl (c.has_many-many.ensures.0 c.if-many.true),
  kept_next c.args.task.now.metas.now c.args.task.now.program.now c.args.task.now.rel.now 5 6 refl (c.in_ok-unkeyed.unkeyed) (c.in_ok-unkeyed.ensures) c.if-unkeyed.false
      (c.requires.kept),
)

pub returns-then-has_two_keys : goal.returns-then-has_two_keys
returns-then-has_two_keys c = (
  Breaks.e7 refl (c.requires.two.0 c.if-has_two_keys.true),
  kept_next c.args.task.now.metas.now c.args.task.now.program.now c.args.task.now.rel.now 6 7 refl (c.has_many-many.result) (c.has_many-many.ensures) c.if-many.false
      (kept_next c.args.task.now.metas.now c.args.task.now.program.now c.args.task.now.rel.now 5 6 refl (c.in_ok-unkeyed.unkeyed) (c.in_ok-unkeyed.ensures) c.if-unkeyed.false
      (c.requires.kept)),
)

pub returns-then-cyclic : goal.returns-then-cyclic
returns-then-cyclic c = (
  Breaks.e8 refl (c.in_ok-cyclic.ensures.0 c.if-cyclic.true),
  kept_next c.args.task.now.metas.now c.args.task.now.program.now c.args.task.now.rel.now 7 8 refl (c.args.has_two_keys) (c.requires.two) c.if-has_two_keys.false
      (kept_next c.args.task.now.metas.now c.args.task.now.program.now c.args.task.now.rel.now 6 7 refl (c.has_many-many.result) (c.has_many-many.ensures) c.if-many.false
      (kept_next c.args.task.now.metas.now c.args.task.now.program.now c.args.task.now.rel.now 5 6 refl (c.in_ok-unkeyed.unkeyed) (c.in_ok-unkeyed.ensures) c.if-unkeyed.false
      (c.requires.kept))),
)

pub returns : goal.returns
returns c =
    kept_next c.args.task.now.metas.now c.args.task.now.program.now c.args.task.now.rel.now 8 9 refl (c.in_ok-cyclic.cyclic) (c.in_ok-cyclic.ensures) c.if-cyclic.false
    (kept_next c.args.task.now.metas.now c.args.task.now.program.now c.args.task.now.rel.now 7 8 refl (c.args.has_two_keys) (c.requires.two) c.if-has_two_keys.false
    (kept_next c.args.task.now.metas.now c.args.task.now.program.now c.args.task.now.rel.now 6 7 refl (c.has_many-many.result) (c.has_many-many.ensures) c.if-many.false
    (kept_next c.args.task.now.metas.now c.args.task.now.program.now c.args.task.now.rel.now 5 6 refl (c.in_ok-unkeyed.unkeyed) (c.in_ok-unkeyed.ensures) c.if-unkeyed.false
    (c.requires.kept))))
