use Rattle.enforce_steps.specs.EnforceAnswer.{same, mended}
use Rattle.enforce_steps.proofs.mending.ended.Goals as goal

pub returns-then-report : goal.returns-then-report
returns-then-report c = same c.if-report.true

pub returns-else-report : goal.returns-else-report
returns-else-report c = mended c.if-report.false
