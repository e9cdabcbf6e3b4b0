use Rattle.std.proofs.Common.{◌≡◌, ◌++◌}
use Rattle.entry_tops.proofs.search.append_calls.Given as goal

abbrev pub invariant-loop-call : goal.invariant-loop-call
invariant-loop-call l = l.calls ≡ l.fn.calls ++ l.yielded
