use Rattle.std.specs.Prelude.{map, All}
use Rattle.std.proofs.Common.{ap, sym, subst, ◌∙◌}
use Rattle.demand_conflicts.specs.NumberedDemands.{IsDemandWithin}
use Rattle.demand_set.specs.Listings.{listed_in}
use Rattle.demand_set.proofs.ListingLaws.{demands_within, are_kept, listed_entries}
use Rattle.demand_set.proofs.set.DemandSet.of_entries.Goals as goal

pub demanded_numbers-requires : goal.demanded_numbers-requires
demanded_numbers-requires c =
    subst (All (IsDemandWithin c.args.table)) (sym (c.as_slice.ensures ∙ c.in_ok-entries.ensures.demands)) (demands_within c.args.table 0 c.args.entries c.requires)

pub invariant_of-result : goal.invariant_of-result
invariant_of-result c =
    are_kept c.args.table c.args.entries c.in_ok-entries.field-0.entries c.in_ok-entries.field-0.demands c.in_ok-numbers.numbers c.requires
    c.in_ok-entries.ensures.entries c.in_ok-entries.ensures.demands c.in_ok-numbers.ensures.within

pub returns-clause-entries : goal.returns-clause-entries
returns-clause-entries c = ap (map (listed_in c.args.table)) c.in_ok-entries.ensures.entries ∙ listed_entries c.args.table c.args.entries
