use Rattle.std.specs.Prelude.{take}
use Rattle.std.proofs.Common.{◌≡◌}
use Rattle.term_table.specs.TermTables.{values_in}
use Rattle.demand_set.proofs.trees.values_trees.Given as goal

abbrev pub invariant-loop-value : goal.invariant-loop-value
invariant-loop-value l = l.trees ≡ values_in l.table (take l.value-index l.values)
