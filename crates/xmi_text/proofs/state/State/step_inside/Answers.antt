use Rattle.std.proofs.Common.{rules}
use Rattle.xmi_text.proofs.state.State.step_inside.Goals as goal

pub returns-in_ok-add-in_default-clause-ok : goal.returns-in_ok-add-in_default-clause-ok
returns-in_ok-add-in_default-clause-ok c = search rules

pub returns-in_default-2-clause-ok : goal.returns-in_default-2-clause-ok
returns-in_default-2-clause-ok c = search rules
