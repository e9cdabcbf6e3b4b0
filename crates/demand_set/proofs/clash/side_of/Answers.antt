use Rattle.std.specs.Prelude.{Some, length}
use Rattle.std.specs.Option.{option_map}
use Rattle.std.proofs.Common.{refl, ap, sym, subst, ◌∙◌}
use Rattle.std.proofs.lemmas.Option.{slice_get-map, slice_get_read}
use Rattle.demand_set.specs.Listings.{listed_in, IsListedWithin}
use Rattle.demand_set.proofs.clash.side_of.Goals as goal

pub entry_tree-requires : goal.entry_tree-requires
entry_tree-requires c =
    subst (IsListedWithin c.args.table.now) (sym c.index-entries-demand.is) (c.requires.entries c.args.demand.now.entry c.index-entries-demand.result c.requires.placed)

pub returns-clause-entry : goal.returns-clause-entry
returns-clause-entry c =
    slice_get-map (listed_in c.args.table.now) c.args.entries.now c.args.demand.now.entry
    ∙ ap (option_map (listed_in c.args.table.now))
    (slice_get_read c.args.entries.now (length c.args.entries.now) c.args.demand.now.entry c.index-entries-demand.result refl c.requires.placed c.index-entries-demand.is)
    ∙ ap Some (sym c.in_ok-entry.ensures)
