use Rattle.std.proofs.Common.{◌≡◌, ℕ, ◌<◌, ◌++◌, get_or, take}
use Rattle.std.specs.List.{flat_map}
use Rattle.trace_log.specs.declared.trace.TraceEntry.{TraceEntry}
use Rattle.trace_log.specs.TraceData.{entry_data}
use Rattle.trace_log.specs.TraceTokens.{data_tokens}
use Rattle.trace_log.specs.TraceHeld.{IsHeldEntry}
use Rattle.trace_log.proofs.trace_writing.write_entries.Given as goal

abbrev pub invariant-loop-entry : goal.invariant-loop-entry
invariant-loop-entry l =
    record {
      before : l.writer.before ≡ l.initial.writer.before;
      tokens : l.writer.tokens ≡ l.initial.writer.tokens ++ flat_map (λ x. data_tokens (entry_data x)) (take l.entry-index l.entries);
      held : (k : ℕ) (x : TraceEntry) → k < l.entry-index → IsHeldEntry (get_or l.entries k x);
    }
