use Rattle.std.proofs.Common.{◌≡◌, ◌++◌, take}
use Rattle.enforcement_rules.proofs.key_cycles.append.Given as goal

abbrev pub invariant-loop-n : goal.invariant-loop-n
invariant-loop-n l = l.out ≡ l.fn.out ++ take l.n-index l.numbers
