use Rattle.ocl_environments.proofs.AgreementLaws.{conforms_listed}
use Rattle.ocl_environments.proofs.agreement.inherits.Goals as goal

pub returns-clause-test : goal.returns-clause-test
returns-clause-test c = conforms_listed c.args.meta.now c.args.c.0 c.args.d.0 c.conforms.result c.class_count-count.ensures.well c.requires c.conforms.ensures
