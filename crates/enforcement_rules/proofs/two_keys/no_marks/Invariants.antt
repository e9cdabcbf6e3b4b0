use Rattle.std.proofs.Common.{◌≡◌, None, replicate}
use Rattle.enforcement_rules.proofs.two_keys.no_marks.Given as goal

abbrev pub invariant-loop-i : goal.invariant-loop-i
invariant-loop-i l = l.marks.items ≡ replicate l._i None
