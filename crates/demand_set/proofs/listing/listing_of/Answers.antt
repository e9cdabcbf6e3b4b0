use Rattle.demand_set.proofs.ListingLaws.{listing_step}
use Rattle.demand_set.proofs.listing.listing_of.Goals as goal

pub loop-entry-preserved : goal.loop-entry-preserved
loop-entry-preserved c =
    listing_step c.loop-entry.yielded c.in-Some.entry c.loop-entry.entries c.list_entry.new.entries c.loop-entry.demands c.list_entry.new.demands
    c.loop-entry.invariant.0 c.loop-entry.invariant.1 c.in_ok-list_entry.ensures.entries c.in_ok-list_entry.ensures.demands
