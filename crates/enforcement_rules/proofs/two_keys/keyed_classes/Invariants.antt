use Rattle.std.proofs.Common.{◌≡◌, take}
use Rattle.enforcement_rules.specs.TwoKeys.{keyed_classes}
use Rattle.enforcement_rules.proofs.two_keys.keyed_classes.Given as goal

abbrev pub invariant-loop-key : goal.invariant-loop-key
invariant-loop-key l = l.keyed ≡ keyed_classes l.number (take l.key-index l.keys)
