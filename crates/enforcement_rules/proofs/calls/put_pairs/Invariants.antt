use Rattle.std.proofs.Common.{◌≡◌, ◌++◌, take, map}
use Rattle.std.specs.List.{flat_map}
use Rattle.enforcement_rules.specs.CallTests.{shown_pair, taken_by_pair}
use Rattle.enforcement_rules.proofs.calls.put_pairs.Given as goal

abbrev pub invariant-loop-pair : goal.invariant-loop-pair
invariant-loop-pair l = l.out ≡ l.fn.out ++ flat_map (taken_by_pair l.program l.called) (map shown_pair (take l.pair-index l.pairs))
