use Rattle.std.proofs.Common.{◌≡◌, drop}
use Rattle.repair_semantics.specs.EntryOrder.{values_order}
use Rattle.term_table.specs.TermTables.{values_in}
use Rattle.term_table.proofs.table.TermTable.values_order.Given as goal

abbrev pub invariant-loop-place : goal.invariant-loop-place
invariant-loop-place l = values_order (values_in l.self (drop l.place l.ones)) (values_in l.self (drop l.place l.others)) ≡ values_order (values_in l.self l.ones) (values_in l.self l.others)
