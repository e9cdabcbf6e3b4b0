use Rattle.std.specs.Prelude.{take}
use Rattle.std.specs.List.{flat_map}
use Rattle.std.proofs.Common.{◌≡◌}
use Rattle.demand_set.specs.Listings.{term_numbers}
use Rattle.demand_set.proofs.terms.numbers_of.Given as goal

abbrev pub invariant-loop-demand : goal.invariant-loop-demand
invariant-loop-demand l = l.numbers ≡ flat_map term_numbers (take l.demand-index l.demands)
