use Rattle.std.proofs.Common.{◌∙◌, arith}
use Rattle.trace_log.specs.TraceData.{entry_data}
use Rattle.trace_log.specs.TraceTokens.{data_tokens}
use Rattle.trace_log.specs.TraceHeld.{IsHeldEntry}
use Rattle.trace_log.proofs.LoopLaws.{one_more, one_held, all_written}
use Rattle.trace_log.proofs.trace_writing.write_entries.Goals as goal

pub loop-entry-preserved : goal.loop-entry-preserved
loop-entry-preserved c =
    let l = c.loop-entry in
    let w = c.in_ok-write_entry.ensures in
    record {
      before = w.tokens.0 ∙ l.invariant.before;
      tokens = one_more (λ x. data_tokens (entry_data x)) c.args.entries.now l.entry-index c.entry-item.result c.args.writer.now.tokens
          l.writer.tokens c.write_entry.new.writer.tokens (omega arith) c.entry-item.is l.invariant.tokens w.tokens.1;
      held = one_held IsHeldEntry c.args.entries.now l.entry-index c.entry-item.result (omega arith) c.entry-item.is l.invariant.held w.held;
    }

pub returns-clause-tokens : goal.returns-clause-tokens
returns-clause-tokens c =
    let l = c.loop-entry in (
      l.invariant.before,
      all_written (λ x. data_tokens (entry_data x)) c.args.entries.now l.entry-index c.args.writer.now.tokens l.writer.tokens (omega arith)
          l.invariant.tokens,
    )

pub returns-clause-held : goal.returns-clause-held
returns-clause-held c = λ k x l. c.loop-entry.invariant.held k x (omega arith)
