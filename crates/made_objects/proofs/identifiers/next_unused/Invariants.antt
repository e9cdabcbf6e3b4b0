use Rattle.std.proofs.Common.{◌≡◌, ◌+◌, length}
use Rattle.made_objects.specs.Headers.{unused_below}
use Rattle.made_objects.proofs.identifiers.next_unused.Given as goal

abbrev pub invariant-loop-number : goal.invariant-loop-number
invariant-loop-number l = record {
  passed : unused_below l.target l.number ≡ unused_below l.target l.from;
  past : l.past ≡ l.from + length l.target.objects + 1;
}
