use Rattle.std.proofs.Common.{sym, subst}
use Rattle.demand_set.specs.Listings.{IsListedWithin}
use Rattle.demand_set.proofs.trees.entries_trees.Goals as goal

pub entry_tree-requires : goal.entry_tree-requires
entry_tree-requires c =
    subst (IsListedWithin c.args.table.now) (sym c.entry-item.is) (c.requires c.loop-entry.entry-index c.entry-item.result c.loop-entry-test.true)
