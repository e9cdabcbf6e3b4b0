use Rattle.std.proofs.Common.{◌≡◌, ◌++◌, map, drop}
use Rattle.std.specs.Option.{option_map}
use Rattle.entry_making.specs.Givers.{expression_giver}
use Rattle.entry_making.specs.Numbered.{giver_numbers}
use Rattle.entry_making.proofs.calls.argument_values.Given as goal

abbrev pub invariant-loop-arg : goal.invariant-loop-arg
invariant-loop-arg l = record {
  value : option_map (λ rest. l.given ++ rest) (giver_numbers l.world.program.now l.world.models.now l.fn.known.values l.fn.known.scope (map expression_giver (drop l.arg-index l.args)))
      ≡ giver_numbers l.world.program.now l.world.models.now l.fn.known.values l.fn.known.scope (map expression_giver l.args);
  kept : l.known ≡ l.fn.known;
}
