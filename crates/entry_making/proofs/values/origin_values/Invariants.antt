use Rattle.std.proofs.Common.{◌≡◌, ◌++◌, map, drop}
use Rattle.std.specs.Option.{option_map}
use Rattle.entry_making.specs.Givers.{shown_origin}
use Rattle.entry_making.specs.Numbered.{giver_numbers}
use Rattle.entry_making.proofs.values.origin_values.Given as goal

abbrev pub invariant-loop-origin : goal.invariant-loop-origin
invariant-loop-origin l = record {
  value : option_map (λ rest. l.given ++ rest) (giver_numbers l.world.program.now l.world.models.now l.values l.fn.scope (map shown_origin (drop l.origin-index l.origins)))
      ≡ giver_numbers l.world.program.now l.world.models.now l.values l.fn.scope (map shown_origin l.origins);
  scope : l.scope ≡ l.fn.scope;
}
