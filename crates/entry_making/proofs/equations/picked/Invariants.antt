use Rattle.std.proofs.Common.{◌≡◌, map, take}
use Rattle.std.specs.Option.{option_map}
use Rattle.entry_making.specs.Equations.{shown_equation, picked}
use Rattle.entry_making.proofs.equations.picked.Given as goal

abbrev pub invariant-loop-v : goal.invariant-loop-v
invariant-loop-v l = map shown_equation l.equations ≡ picked (map (option_map shown_equation) l.table) (take l.v-index l.order)
