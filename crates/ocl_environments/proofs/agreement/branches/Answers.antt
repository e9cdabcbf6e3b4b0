use Rattle.ocl_environments.proofs.AgreementLaws.{null_branch}
use Rattle.ocl_environments.proofs.agreement.branches.Goals as goal

pub returns-in_ok-duplicate : goal.returns-in_ok-duplicate
returns-in_ok-duplicate c =
    null_branch c.args.metas.now c.args.one.now c.args.other.now c.in_ok-duplicate.field-0 c.is_null.result c.is_null.ensures c.if-is_null.true c.in_ok-duplicate.ensures
