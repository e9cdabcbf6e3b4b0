use Rattle.std.proofs.Common.{◌≡◌, map}
use Rattle.mof_metamodel.specs.Metamodels.{props_of}
use Rattle.mof_metamodel.specs.Tables.{prop_numbers, table}
use Rattle.mof_metamodel.proofs.ordered.prop_orders.Given as goal

-- a row for each class so far
abbrev pub invariant-loop-c : goal.invariant-loop-c
invariant-loop-c l = map prop_numbers l.orders.items ≡ table (props_of l.named) l.c
