use Rattle.std.proofs.Common.{◌≡◌, ◌++◌}
use Rattle.enforcement_rules.proofs.derivations.append.Given as goal

abbrev pub invariant-loop-rule : goal.invariant-loop-rule
invariant-loop-rule l = l.pending ≡ l.fn.pending ++ l.yielded
