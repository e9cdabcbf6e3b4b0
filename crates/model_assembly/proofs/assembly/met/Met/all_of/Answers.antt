use Rattle.std.proofs.Common.{◌∙◌, arith}
use Rattle.model_assembly.proofs.assembling.MetLaws.{met_more}
use Rattle.model_assembly.proofs.assembly.met.Met.all_of.Goals as goal

pub loop-key-preserved : goal.loop-key-preserved
loop-key-preserved g c = λ other. (
    c.in_ok-meet.ensures.met other
    ∙ met_more g.K.PartialEq.eq g.met.K.Eq.laws c.args.keys.now c.loop-key.key-index c.key-item.result other c.loop-key.met.set.keys (omega arith) c.key-item.is (c.loop-key.invariant other))
