use Rattle.std.proofs.Common.{◌≡◌, false, replicate}
use Rattle.enforcement_rules.proofs.derivations.none_bound.Given as goal

abbrev pub invariant-loop-i : goal.invariant-loop-i
invariant-loop-i l = l.bound.items ≡ replicate l._i false
