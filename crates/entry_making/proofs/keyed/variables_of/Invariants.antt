use Rattle.std.proofs.Common.{◌≡◌, map, take}
use Rattle.std.specs.List.{flat_map}
use Rattle.entry_making.specs.Givers.{shown_origin}
use Rattle.entry_making.specs.KeyedVariables.{variables_in}
use Rattle.entry_making.proofs.keyed.variables_of.Given as goal

abbrev pub invariant-loop-origin : goal.invariant-loop-origin
invariant-loop-origin l = l.out ≡ flat_map variables_in (map shown_origin (take l.origin-index l.origins))
