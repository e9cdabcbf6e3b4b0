use Rattle.enforce_steps.proofs.SatisfyingLaws.{leaves_satisfied}
use Rattle.enforce_steps.proofs.laws.enforced_targets_satisfy.Goals as goal

pub returns : goal.returns
returns c = λ q o end a answer.
    leaves_satisfied c.made_models_satisfy.ensures.satisfied c.made_models_satisfy.ensures.chains c.unchanged_reports_are_exact.ensures q o a end answer
