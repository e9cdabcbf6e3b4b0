use Rattle.std.proofs.Common.{◌∙◌, ap}
use Rattle.qvtr_engine.proofs.TextSetLaws.{found, inserted}
use Rattle.qvtr_engine.proofs.text_set.TextSet.put.Goals as goal

pub returns-clause-added : goal.returns-clause-added
returns-clause-added c = λ other. ap (found other) c.in_ok-insert.ensures.keys ∙ inserted c.args.self.now.texts.keys c.args.text other
