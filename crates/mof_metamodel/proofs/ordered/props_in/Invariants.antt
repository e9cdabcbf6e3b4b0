use Rattle.std.proofs.Common.{◌≡◌, take}
use Rattle.std.specs.List.{flat_map}
use Rattle.mof_metamodel.specs.Metamodels.{own_props}
use Rattle.mof_metamodel.specs.Tables.{prop_numbers}
use Rattle.mof_metamodel.proofs.ordered.props_in.Given as goal

-- the properties of the classes so far
abbrev pub invariant-loop-c : goal.invariant-loop-c
invariant-loop-c l = prop_numbers l.order ≡ flat_map (own_props l.named) (take l.c-index l.classes)
