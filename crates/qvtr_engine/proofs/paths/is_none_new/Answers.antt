use Rattle.std.proofs.Common.{arith}
use Rattle.std.proofs.lemmas.Grind.{common_steps}
use Rattle.qvtr_engine.proofs.RequestLaws.{texts_in}
use Rattle.qvtr_engine.proofs.paths.is_none_new.Goals as goal

pub loop-path-preserved : goal.loop-path-preserved
loop-path-preserved c = grind (arith, common_steps, c.is_new_of_one.ensures (texts_in c.args.paths.now) c.requires)
