use Rattle.std.proofs.Common.{◌≡◌, take}
use Rattle.entry_making.specs.CallNumbers.{number_calls}
use Rattle.entry_making.proofs.calls.put_calls.Given as goal

abbrev pub invariant-loop-conjunct : goal.invariant-loop-conjunct
invariant-loop-conjunct l = record {
  value : l.calls ≡ number_calls l.world.program.now l.world.models.now l.fn.known (take l.conjunct-index l.clause);
  kept : l.known ≡ l.fn.known;
}
