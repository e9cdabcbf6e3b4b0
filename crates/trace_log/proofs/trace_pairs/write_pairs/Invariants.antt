use Rattle.std.proofs.Common.{◌≡◌, ℕ, ◌<◌, ◌++◌, get_or, take}
use Rattle.trace_log.specs.declared.trace.TracePair.{TracePair}
use Rattle.trace_log.specs.TraceTokens.{pairs_tokens}
use Rattle.trace_log.specs.TraceHeld.{IsHeldPair}
use Rattle.trace_log.proofs.trace_pairs.write_pairs.Given as goal

abbrev pub invariant-loop-pair : goal.invariant-loop-pair
invariant-loop-pair l =
    record {
      before : l.writer.before ≡ l.initial.writer.before;
      tokens : l.writer.tokens ≡ l.initial.writer.tokens ++ pairs_tokens (take l.pair-index l.pairs);
      held : (k : ℕ) (p : TracePair) → k < l.pair-index → IsHeldPair (get_or l.pairs k p);
    }
