use Rattle.std.proofs.Common.{◌∙◌, arith}
use Rattle.trace_log.specs.TraceData.{pair_data}
use Rattle.trace_log.specs.TraceTokens.{data_tokens}
use Rattle.trace_log.specs.TraceHeld.{IsHeldPair}
use Rattle.trace_log.proofs.LeftLaws.{all_held}
use Rattle.trace_log.proofs.LoopLaws.{one_more, one_held, all_written}
use Rattle.trace_log.proofs.trace_pairs.write_pairs.Goals as goal

pub loop-pair-preserved : goal.loop-pair-preserved
loop-pair-preserved c =
    let l = c.loop-pair in
    let w = c.in_ok-write_pair.ensures in
    record {
      before = w.tokens.0 ∙ l.invariant.before;
      tokens = one_more (λ p. data_tokens (pair_data p)) c.args.pairs.now l.pair-index c.pair-item.result c.args.writer.now.tokens l.writer.tokens
          c.write_pair.new.writer.tokens (omega arith) c.pair-item.is l.invariant.tokens w.tokens.1;
      held = one_held IsHeldPair c.args.pairs.now l.pair-index c.pair-item.result (omega arith) c.pair-item.is l.invariant.held w.held;
    }

pub returns-clause-tokens : goal.returns-clause-tokens
returns-clause-tokens c =
    let l = c.loop-pair in (
      l.invariant.before,
      all_written (λ p. data_tokens (pair_data p)) c.args.pairs.now l.pair-index c.args.writer.now.tokens l.writer.tokens (omega arith)
          l.invariant.tokens,
    )

pub returns-clause-held : goal.returns-clause-held
returns-clause-held c = all_held c.args.pairs.now (λ k p l. c.loop-pair.invariant.held k p (omega arith))
