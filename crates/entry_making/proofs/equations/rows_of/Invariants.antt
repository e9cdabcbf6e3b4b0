use Rattle.std.proofs.Common.{◌≡◌, length, map, take}
use Rattle.std.specs.Option.{option_map}
use Rattle.entry_making.specs.Equations.{shown_equation, row_of}
use Rattle.entry_making.proofs.equations.rows_of.Given as goal

abbrev pub invariant-loop-equation : goal.invariant-loop-equation
invariant-loop-equation l = l.rows ≡ map (row_of (length l.table)) (map (option_map shown_equation) (take l.equation-index l.table))
