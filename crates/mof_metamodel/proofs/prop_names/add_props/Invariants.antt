use Rattle.std.proofs.Common.{map}
use Rattle.mof_metamodel.specs.Metamodels.{props_of}
use Rattle.mof_metamodel.specs.Tables.{AddsEntries, name_number}
use Rattle.mof_metamodel.proofs.prop_names.add_props.Given as goal

-- the properties so far were added
abbrev pub invariant-loop-p : goal.invariant-loop-p
invariant-loop-p l = AddsEntries l.fn.holders l.holders (map (name_number l.ordered) (props_of l.ordered l.c)) (props_of l.ordered l.c) l.p-index l.c
