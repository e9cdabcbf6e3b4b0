use Rattle.ocl_eval.proofs.MetOutLaws.{outs_met_with, new_by_outs}
use Rattle.ocl_eval.proofs.met_outs.MetOuts.meet.Goals as goal

pub returns-clause-new_ones : goal.returns-clause-new_ones
returns-clause-new_ones c = λ rest. new_by_outs _ _ rest (λ other. outs_met_with c.args.out.now other c.args.self.now.outs.keys c.insert.new.self.keys (c.in_ok-insert.ensures.updates.0 other))
