use Rattle.std.proofs.Common.{◌≡◌, take}
use Rattle.std.specs.List.{filter_map}
use Rattle.mof_metamodel.specs.Metamodels.{class_number}
use Rattle.mof_metamodel.specs.Tables.{class_numbers}
use Rattle.mof_metamodel.proofs.hierarchy.named_classes.Given as goal

-- the classes of the names so far
abbrev pub invariant-loop-name : goal.invariant-loop-name
invariant-loop-name l = class_numbers l.ids ≡ filter_map (class_number l.named) (take l.name-index l.names)
