use Rattle.std.proofs.Common.{◌≡◌, take}
use Rattle.entry_making.specs.CallNumbers.{roots_among}
use Rattle.entry_making.proofs.calls.roots_among.Given as goal

abbrev pub invariant-loop-domain : goal.invariant-loop-domain
invariant-loop-domain l = l.roots ≡ roots_among l.values (take l.domain-index l.domains)
