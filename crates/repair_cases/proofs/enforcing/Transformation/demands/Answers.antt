use Rattle.repair_cases.proofs.enforcing.Transformation.demands.Goals as goal

pub demands-requires : goal.demands-requires
demands-requires c = record { premises = (c.args.self.now.metas.now, c.requires) }
