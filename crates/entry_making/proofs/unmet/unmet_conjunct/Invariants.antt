use Rattle.std.proofs.Common.{◌≡◌, drop}
use Rattle.entry_making.specs.UnmetNumbers.{unmet_conjunct}
use Rattle.entry_making.proofs.unmet.unmet_conjunct.Given as goal

abbrev pub invariant-loop-i : goal.invariant-loop-i
invariant-loop-i l = record {
  value : unmet_conjunct l.world.program.now l.world.models.now l.rel l.fn.known l.i (drop l.i l.rel.wheres)
      ≡ unmet_conjunct l.world.program.now l.world.models.now l.rel l.fn.known 0 l.rel.wheres;
  kept : l.known ≡ l.fn.known;
}
