use Rattle.std.proofs.Common.{◌≡◌, map}
use Rattle.demand_set.specs.Listings.{listed_of, listed_from}
use Rattle.demand_set.proofs.listing.listing_of.Given as goal

abbrev pub invariant-loop-entry : goal.invariant-loop-entry
invariant-loop-entry l = (l.entries ≡ map listed_of l.yielded) × (l.demands ≡ listed_from 0 l.yielded)
