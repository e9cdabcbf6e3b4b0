use Rattle.std.proofs.Common.{refl, arith}
use Rattle.xmi_text.proofs.reading.Reached.{Reached-byte}
use Rattle.xmi_text.proofs.reader.advance.Goals as goal

-- one byte more was stepped over
pub loop-at-preserved : goal.loop-at-preserved
loop-at-preserved c = record {
  within = omega arith;
  reached = λ given r. Reached-byte c.args.bytes.now c.loop-at.at given _ c.loop-at.state c.step.new.self (c.is_idle.ensures.0 c.if-is_idle.true) (omega arith) refl c.in_ok-step.ensures.ok (c.loop-at.invariant.reached given r);
}
