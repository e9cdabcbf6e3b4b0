use Rattle.std.specs.Prelude.{take, map}
use Rattle.std.proofs.Common.{◌≡◌}
use Rattle.demand_set.specs.Listings.{listed_in}
use Rattle.demand_set.proofs.trees.entries_trees.Given as goal

abbrev pub invariant-loop-entry : goal.invariant-loop-entry
invariant-loop-entry l = l.trees ≡ map (listed_in l.table) (take l.entry-index l.entries)
