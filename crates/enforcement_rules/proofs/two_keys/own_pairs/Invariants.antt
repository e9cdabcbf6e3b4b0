use Rattle.std.proofs.Common.{◌≡◌, take}
use Rattle.enforcement_rules.specs.TwoKeys.{own_pairs}
use Rattle.enforcement_rules.proofs.two_keys.own_pairs.Given as goal

abbrev pub invariant-loop-k : goal.invariant-loop-k
invariant-loop-k l = l.pending ≡ own_pairs (take l.k-index l.keyed)
