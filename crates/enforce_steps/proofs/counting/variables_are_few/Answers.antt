use Rattle.std.proofs.Common.{subst}
use Rattle.enforce_steps.specs.Premises.{AreNumbered}
use Rattle.enforce_steps.proofs.CountingLaws.{few_variables}
use Rattle.enforce_steps.proofs.counting.variables_are_few.Goals as goal

pub returns : goal.returns
returns c = λ metas well rel has. few_variables metas c.args.program.now well (subst AreNumbered c.as_slice.ensures c.few_in_each.ensures) rel has
