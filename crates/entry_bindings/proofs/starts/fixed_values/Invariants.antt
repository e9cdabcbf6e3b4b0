use Rattle.std.proofs.Common.{◌≡◌, map, take}
use Rattle.std.specs.Option.{option_map}
use Rattle.entry_bindings.specs.Starts.{fixed_value}
use Rattle.entry_bindings.proofs.starts.fixed_values.Given as goal

abbrev pub invariant-loop-root : goal.invariant-loop-root
invariant-loop-root l = l.values ≡ map (option_map (fixed_value l.target)) (take l.root-index l.roots)
