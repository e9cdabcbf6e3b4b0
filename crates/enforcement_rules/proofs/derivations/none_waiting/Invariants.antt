use Rattle.std.proofs.Common.{◌≡◌, [], replicate}
use Rattle.enforcement_rules.proofs.derivations.none_waiting.Given as goal

abbrev pub invariant-loop-i : goal.invariant-loop-i
invariant-loop-i l = l.waiting.items ≡ replicate l._i []
