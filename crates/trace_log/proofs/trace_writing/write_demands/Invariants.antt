use Rattle.std.proofs.Common.{◌≡◌, ℕ, ◌<◌, ◌++◌, get_or, take}
use Rattle.std.specs.List.{flat_map}
use Rattle.trace_log.specs.declared.trace.TraceDemand.{TraceDemand}
use Rattle.trace_log.specs.TraceData.{demand_data}
use Rattle.trace_log.specs.TraceTokens.{data_tokens}
use Rattle.trace_log.specs.TraceHeld.{IsHeldDemand}
use Rattle.trace_log.proofs.trace_writing.write_demands.Given as goal

abbrev pub invariant-loop-demand : goal.invariant-loop-demand
invariant-loop-demand l =
    record {
      before : l.writer.before ≡ l.initial.writer.before;
      tokens : l.writer.tokens ≡ l.initial.writer.tokens ++ flat_map (λ x. data_tokens (demand_data x)) (take l.demand-index l.demands);
      held : (k : ℕ) (x : TraceDemand) → k < l.demand-index → IsHeldDemand (get_or l.demands k x);
    }
