use Rattle.std.proofs.Common.{◌≡◌, ◌++◌, map}
use Rattle.demand_set.specs.Listings.{numbered_demand}
use Rattle.demand_set.proofs.listing.list_demands.Given as goal

abbrev pub invariant-loop-demand : goal.invariant-loop-demand
invariant-loop-demand l = l.listed ≡ l.fn.listed ++ map (numbered_demand l.entry) l.yielded
