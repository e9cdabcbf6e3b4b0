use Rattle.repair_cases.proofs.binding_trials.compare_check.Goals as goal

pub check-requires-clause-formed : goal.check-requires-clause-formed
check-requires-clause-formed c = (c.args.trial.now.metas.now, c.requires.formed)
