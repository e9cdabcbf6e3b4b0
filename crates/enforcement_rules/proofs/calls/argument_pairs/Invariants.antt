use Rattle.std.proofs.Common.{◌≡◌, take, map}
use Rattle.enforcement_rules.specs.CallTests.{shown_pair, argument_pairs}
use Rattle.enforcement_rules.proofs.calls.argument_pairs.Given as goal

abbrev pub invariant-loop-i : goal.invariant-loop-i
invariant-loop-i l = map shown_pair l.pairs ≡ argument_pairs (take l.i l.doms) (take l.i l.args)
