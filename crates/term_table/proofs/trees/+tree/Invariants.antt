use Rattle.std.proofs.Common.{◌≡◌, ◌+◌, ◌*◌, map, take}
use Rattle.term_table.specs.TermTables.{value_in}
use Rattle.term_table.specs.Kept.{trees}
use Rattle.term_table.proofs.trees.+tree.Given as goal

-- The terms among the key values of a term have lesser numbers.

abbrev pub decreases-tree_of : goal.decreases-tree_of
decreases-tree_of l = 3 * l.number + 2

abbrev pub decreases-values_of : goal.decreases-values_of
decreases-values_of l = 3 * l.bound + 1

abbrev pub decreases-value_of : goal.decreases-value_of
decreases-value_of l = 3 * l.bound

abbrev pub invariant-values_of-loop-key : goal.invariant-values_of-loop-key
invariant-values_of-loop-key l = l.values ≡ map (value_in (trees l.kept)) (take l.key-index l.keys)
