use Rattle.std.specs.Prelude.{take, map}
use Rattle.std.proofs.Common.{◌≡◌}
use Rattle.term_table.specs.TermTables.{term_at}
use Rattle.demand_set.proofs.trees.terms_trees.Given as goal

abbrev pub invariant-loop-number : goal.invariant-loop-number
invariant-loop-number l = l.trees ≡ map (term_at l.table) (take l.number-index l.numbers)
