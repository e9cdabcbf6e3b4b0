use Rattle.std.proofs.Common.{◌≡◌, None, replicate}
use Rattle.enforcement_rules.proofs.key_table.no_keys.Given as goal

abbrev pub invariant-loop-i : goal.invariant-loop-i
invariant-loop-i l = l.table.items ≡ replicate l._i None
