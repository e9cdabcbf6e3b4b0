use Rattle.std.proofs.Common.{◌≡◌, ◌++◌, map, take}
use Rattle.enforcement_rules.specs.KnownTests.{universal_rule}
use Rattle.enforcement_rules.proofs.known.put_universal.Given as goal

abbrev pub invariant-loop-v : goal.invariant-loop-v
invariant-loop-v l = l.rules ≡ l.fn.rules ++ map universal_rule (take l.v-index l.universal)
