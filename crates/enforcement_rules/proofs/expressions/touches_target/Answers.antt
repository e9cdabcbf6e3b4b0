use Rattle.enforcement_rules.proofs.ExpressionLaws.{any_told}
use Rattle.enforcement_rules.proofs.expressions.touches_target.Goals as goal

pub returns : goal.returns
returns c =
    any_told c.args.task.now.program.now c.args.task.now.rel.now c.args.task.now.meta c.args.task.now.readers.now c.requires.meta c.requires.readers _ c.in_ok-templates.ensures c.as_slice.result.now c.as_slice.ensures
    c.any_touches.result c.any_touches.ensures
