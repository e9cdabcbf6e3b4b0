use Rattle.std.proofs.Common.{◌≡◌, length, map, drop}
use Rattle.entry_making.specs.Equations.{shown_equation, computed}
use Rattle.entry_making.proofs.scopes.compute_all.Given as goal

abbrev pub invariant-loop-equation : goal.invariant-loop-equation
invariant-loop-equation l = record {
  computed : computed l.world.program.now l.world.models.now l.scope (map shown_equation (drop l.equation-index l.equations)) ≡ computed l.world.program.now l.world.models.now l.fn.scope (map shown_equation l.equations);
  places : length l.scope ≡ length l.fn.scope;
}
