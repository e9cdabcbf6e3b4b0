use Rattle.ocl_eval.proofs.MetLaws.{met_with, new_by_members}
use Rattle.ocl_eval.proofs.met.Met.meet.Goals as goal

pub returns-clause-met : goal.returns-clause-met
returns-clause-met c = λ other. met_with c.args.datum.now other c.args.self.now.data.keys c.insert.new.self.keys (c.in_ok-insert.ensures.updates.0 other)

pub returns-clause-new_ones : goal.returns-clause-new_ones
returns-clause-new_ones c = λ rest. new_by_members _ _ rest (λ other. met_with c.args.datum.now other c.args.self.now.data.keys c.insert.new.self.keys (c.in_ok-insert.ensures.updates.0 other))
