use Rattle.std.proofs.Common.{◌≡◌, take, length}
use Rattle.std.specs.List.{flat_map}
use Rattle.mof_metamodel.specs.Metamodels.{own_props, lineage_of}
use Rattle.mof_metamodel.specs.Tables.{starts_of, AddsEntries}
use Rattle.mof_metamodel.proofs.heirs.add_heir.Given as goal

-- the class stands in the lists of the classes so far; the start of the next one
abbrev pub invariant-loop-d : goal.invariant-loop-d
invariant-loop-d l = AddsEntries l.fn.heirs l.heirs (lineage_of l.named l.c) (starts_of l.named (lineage_of l.named l.c)) l.d-index l.c × (l.start ≡ length (flat_map (own_props l.named) (take l.d-index (lineage_of l.named l.c))))
