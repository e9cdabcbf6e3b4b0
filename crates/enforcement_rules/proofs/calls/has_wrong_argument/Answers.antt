use Rattle.enforcement_rules.proofs.CallLaws.{wrong_told}
use Rattle.enforcement_rules.proofs.calls.has_wrong_argument.Goals as goal

pub returns : goal.returns
returns c = wrong_told c.args.task.now.metas.now c.len-count.ensures.well c.args.task.now.program.now c.args.task.now.rel.now c.in_ok-passed.passed c.in_ok-passed.ensures
