use Rattle.ocl_environments.proofs.env.Env.bind.Goals as goal

pub returns-clause-ok : goal.returns-clause-ok
returns-clause-ok c = assumption
