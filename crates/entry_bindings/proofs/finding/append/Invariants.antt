use Rattle.std.proofs.Common.{◌≡◌, ◌++◌}
use Rattle.entry_bindings.proofs.finding.append.Given as goal

abbrev pub invariant-loop-values : goal.invariant-loop-values
invariant-loop-values l = l.found ≡ l.fn.found ++ l.yielded
