use Rattle.std.specs.Prelude.{take, map}
use Rattle.std.proofs.Common.{◌≡◌}
use Rattle.term_table.specs.TermTables.{value_in}
use Rattle.demand_set.proofs.trees.roots_trees.Given as goal

abbrev pub invariant-loop-root : goal.invariant-loop-root
invariant-loop-root l = l.trees ≡ map (value_in l.table) (take l.root-index l.roots)
