use Rattle.std.proofs.Common.{◌≡◌, drop}
use Rattle.entry_making.specs.UnmetNumbers.{any_lacks}
use Rattle.entry_making.proofs.unmet.is_any_lacking.Given as goal

abbrev pub invariant-loop-arg : goal.invariant-loop-arg
invariant-loop-arg l = record {
  value : any_lacks l.world.program.now l.world.models.now l.rel l.fn.known (drop l.arg-index l.args) ≡ any_lacks l.world.program.now l.world.models.now l.rel l.fn.known l.args;
  kept : l.known ≡ l.fn.known;
}
