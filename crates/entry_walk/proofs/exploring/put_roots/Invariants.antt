use Rattle.std.proofs.Common.{◌≡◌, drop}
use Rattle.entry_making.specs.CallNumbers.{with_numbers}
use Rattle.entry_walk.proofs.exploring.put_roots.Given as goal

abbrev pub invariant-loop-i : goal.invariant-loop-i
invariant-loop-i l = with_numbers l.values (drop l.i l.domains) (drop l.i l.given) ≡ with_numbers l.fn.values l.domains l.given
