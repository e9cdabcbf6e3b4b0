use Rattle.std.proofs.Common.{◌∙◌, arith}
use Rattle.trace_log.specs.TraceData.{demand_data}
use Rattle.trace_log.specs.TraceTokens.{data_tokens}
use Rattle.trace_log.specs.TraceHeld.{IsHeldDemand}
use Rattle.trace_log.proofs.LoopLaws.{one_more, one_held, all_written}
use Rattle.trace_log.proofs.trace_writing.write_demands.Goals as goal

pub loop-demand-preserved : goal.loop-demand-preserved
loop-demand-preserved c =
    let l = c.loop-demand in
    let w = c.in_ok-write_demand.ensures in
    record {
      before = w.tokens.0 ∙ l.invariant.before;
      tokens = one_more (λ x. data_tokens (demand_data x)) c.args.demands.now l.demand-index c.demand-item.result c.args.writer.now.tokens
          l.writer.tokens c.write_demand.new.writer.tokens (omega arith) c.demand-item.is l.invariant.tokens w.tokens.1;
      held = one_held IsHeldDemand c.args.demands.now l.demand-index c.demand-item.result (omega arith) c.demand-item.is l.invariant.held w.held;
    }

pub returns-clause-tokens : goal.returns-clause-tokens
returns-clause-tokens c =
    let l = c.loop-demand in (
      l.invariant.before,
      all_written (λ x. data_tokens (demand_data x)) c.args.demands.now l.demand-index c.args.writer.now.tokens l.writer.tokens (omega arith)
          l.invariant.tokens,
    )

pub returns-clause-held : goal.returns-clause-held
returns-clause-held c = λ k x l. c.loop-demand.invariant.held k x (omega arith)
