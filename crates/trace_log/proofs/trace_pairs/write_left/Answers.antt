use Rattle.std.proofs.Common.{◌++◌, ◌∙◌}
use Rattle.trace_log.specs.TraceTokens.{left_tokens}
use Rattle.trace_log.proofs.LeftLaws.{left_kept, left_falls, held_kept}
use Rattle.trace_log.proofs.trace_pairs.write_left.Goals as goal

pub loop-pairs-smaller : goal.loop-pairs-smaller
loop-pairs-smaller c =
    left_falls c.loop-pairs.left c.pop.new.self c.write_step.new.left c.in-Some.pairs c.in-Some.ensures c.loop-pairs.writer.tokens
    c.write_step.new.writer.tokens c.in_ok-write_step.ensures.tokens c.in_ok-write_step.ensures.longer

pub loop-pairs-preserved : goal.loop-pairs-preserved
loop-pairs-preserved c = record {
  before = c.in_ok-write_step.ensures.before ∙ c.loop-pairs.invariant.before;
  tokens = left_kept c.loop-pairs.left c.pop.new.self c.write_step.new.left c.in-Some.pairs c.in-Some.ensures
      (c.args.writer.now.tokens ++ left_tokens c.args.left.now) c.loop-pairs.writer.tokens c.write_step.new.writer.tokens
      c.loop-pairs.invariant.tokens c.in_ok-write_step.ensures.tokens;
  held = λ h. c.loop-pairs.invariant.held
      (held_kept c.loop-pairs.left c.pop.new.self c.write_step.new.left c.in-Some.pairs c.in-Some.ensures c.in_ok-write_step.ensures.held h);
}
