use Rattle.std.specs.Prelude.{take}
use Rattle.std.proofs.Common.{◌≡◌}
use Rattle.demand_conflicts.specs.NumberedDemands.{demands_in}
use Rattle.demand_set.proofs.trees.demands_trees.Given as goal

abbrev pub invariant-loop-demand : goal.invariant-loop-demand
invariant-loop-demand l = l.trees ≡ demands_in l.table (take l.demand-index l.demands)
