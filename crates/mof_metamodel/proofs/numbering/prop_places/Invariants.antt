use Rattle.std.proofs.Common.{◌≡◌, map, take}
use Rattle.std.specs.Prelude.{All}
use Rattle.mof_metamodel.specs.Metamodels.{declared_from}
use Rattle.mof_metamodel.specs.Tables.{placed, IsPlace}
use Rattle.mof_metamodel.proofs.numbering.prop_places.Given as goal

-- the places so far are those of the properties of the classes so far
abbrev pub invariant-loop-c : goal.invariant-loop-c
invariant-loop-c l = (map (placed l.desc) l.places.items ≡ declared_from 0 (take l.c l.desc.classes)) × All (IsPlace l.desc) l.places.items
