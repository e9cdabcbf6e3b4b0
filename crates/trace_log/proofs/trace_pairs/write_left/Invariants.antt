use Rattle.std.proofs.Common.{◌≡◌, ◌++◌, length}
use Rattle.trace_log.specs.TraceTokens.{left_tokens, AreAllHeld}
use Rattle.trace_log.proofs.trace_pairs.write_left.Given as goal

-- What is written and what is left make the whole. Each step writes a token.
abbrev pub invariant-loop-pairs : goal.invariant-loop-pairs
invariant-loop-pairs l =
    record {
      before : l.writer.before ≡ l.initial.writer.before;
      tokens : l.writer.tokens ++ left_tokens l.left ≡ l.initial.writer.tokens ++ left_tokens l.initial.left;
      held : AreAllHeld l.left → AreAllHeld l.initial.left;
    }

abbrev pub decreases-loop-pairs : goal.decreases-loop-pairs
decreases-loop-pairs l = length (left_tokens l.left)
